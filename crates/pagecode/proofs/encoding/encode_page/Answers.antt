-- What passes the checks is a page: its header and its content.
use mathlib.Core.List.{List, ◌++◌}
use mathlib.Core.Path.{ap, sym, ◌∙◌}
use Prim.Native.Nat.{ℕ, ◌/◌}
use lib.ListN.{length}
use borrow.Author.Tests.{eq-eqb, lt-ltb}
use Rattle.pagecode.specs.Page.{header_octets, encoded_page}
use Rattle.pagecode.specs.Encode.{encode_answer}
use Rattle.pagecode.proofs.encoding.encode_page.Goals as goal

pub returns : goal.returns
unfolding encode_answer encoded_page
returns c =
    let a = c.args in
    let m = a.message.now in
    record {
      answered =
          simp (
            sym c.are_pages.ensures ∙ c.if-not-are_pages.false,
            eq-eqb _ _ c.if-out-ne-PAGE_OCTETS.false,
            lt-ltb _ 2 c.if-status-ge2.false,
            lt-ltb _ 32 c.if-number-ge32.false,
            sym c.is_legal.ensures ∙ c.if-not-is_legal.false,
          );
      buffer = c.write_page.ensures ∙ ap (λ (x : List ℕ). header_octets (record { status = a.status; reserved = 0; kind = 1; number = a.number; size = length m / 53; page = a.page }) ++ x) c.page_content-content.ensures;
    }
