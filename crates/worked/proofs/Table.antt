-- The table holds: its lines compute. The pages' octets compute by Table 42, which is proved to be the generator's.
use mathlib.Core.List.{List}
use mathlib.Core.Path.{refl, ap, ◌∙◌}
use Prim.Native.Nat.{ℕ}
use lib.ListN.{get_or}
use Rattle.pagecode.specs.Field.{◌⊗◌}
use Rattle.pagecode.specs.Page.{legal, header_octets, header_of, is_dummy}
use Rattle.pagecode.proofs.Worked.{one-octet, last-pages}
use Rattle.collector.specs.Feed.{judge}
use Rattle.bits.specs.Bits.{bits, value, bits_of, octets, octets_of}
use Rattle.mt1.specs.Parse.{◌>>=◌, ret, raw, field, judged, times, for_each, systems, wrong_id}
use Rattle.mt1.specs.Message.{count, count_before, cells_of}
use Rattle.mt1.specs.Mt1.{header, system, counted, mask, interval, block, clocks, used, lent_for, behind, message}
use Rattle.mt1.specs.Records.{signed_or, widened, at, of_system, of_id, subset_clock, header_record, system_record, satellite_record, cell_record, build, cell_place, cell_records, satellite_records, system_records, records}
use Rattle.worked.specs.Table.{CheckedByHand}

pub checked_by_hand : CheckedByHand
unfolding ◌⊗◌ legal header_octets header_of is_dummy judge raw field judged times for_each systems wrong_id ◌>>=◌ ret bits value bits_of octets octets_of count count_before cells_of header system counted mask block interval clocks used lent_for behind message signed_or widened at of_system of_id subset_clock header_record system_record satellite_record cell_record build cell_place cell_records satellite_records system_records records
checked_by_hand = record {
  sixteen = refl;
  inverses = refl;
  nought = refl;
  page-32 = λ j h. one-octet 1696 j h refl 32 ∙ ap (λ (l : List ℕ). get_or l 0 0) last-pages;
  page-33 = λ j h. one-octet 1696 j h refl 33 ∙ ap (λ (l : List ℕ). get_or l 1 0) last-pages;
  page-34 = λ j h. one-octet 1696 j h refl 34 ∙ ap (λ (l : List ℕ). get_or l 2 0) last-pages;
  page-254 = λ j h. one-octet 1696 j h refl 254 ∙ ap (λ (l : List ℕ). get_or l 3 0) last-pages;
  page-255 = λ j h. one-octet 1696 j h refl 255 ∙ ap (λ (l : List ℕ). get_or l 4 0) last-pages;
  header_read = refl;
  header-written = refl;
  dummy = refl;
  dummy-judged = λ content. refl;
  dummy-page = refl;
  size-1-page-2 = refl;
  size-1-page-33 = refl;
  size-32-page-32 = refl;
  size-32-page-0 = refl;
  message-header = refl;
  time-3600 = refl;
  listing = refl;
}
