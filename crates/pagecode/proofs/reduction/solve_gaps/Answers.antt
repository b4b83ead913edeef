-- The equations of the parity pages are reduced to the missing pages; what solves them completes the message.
-- There are as many parity pages as pages are missing, so the square that is solved is whole.
use mathlib.Core.List.{List}
use mathlib.Core.Path.{◌≡◌, sym, ap, ◌∙◌, subst}
use Prim.Native.Nat.{ℕ, ◌*◌}
use native.Mathlib.Omega.{arith}
use lib.ListN.{length, take}
use Rattle.std.proofs.lemmas.List.{length-take-le}
use Rattle.pagecode.specs.Reduction.{Spread, Numbered, Marked, AreNoughts, AreOthers}
use Rattle.pagecode.proofs.LegalNumbers.{Pages, pages-of}
use Rattle.pagecode.proofs.Noughts.{marked-front}
use Rattle.pagecode.proofs.SolvedPages.{plain-spread}
use Rattle.pagecode.proofs.Sought.{Sought, Facts, noughts-at, others-at, facts-of, regular-of, completed-of}
use Rattle.pagecode.proofs.reduction.solve_gaps.Goals.{Start, After-others-known}
use Rattle.pagecode.proofs.reduction.solve_gaps.Goals as goal

-- the numbers are those of pages
pages : (c : Start) → Pages (length c.args.numbers.now) c.args.numbers.now
pages c = pages-of c.args.numbers.now c.requires.0 c.requires.2 c.requires.3

-- no plain page stands twice
spread : (c : Start) → Spread (length c.args.plain.now) (length c.args.plain.now) c.args.plain.now
spread c =
    let a = c.args in
    let k : ℕ = length a.numbers.now in
    subst (λ (n : ℕ). Spread n n a.plain.now) (sym c.requires.4) (plain-spread a.numbers.now a.plain.now c.requires.0 (pages c) c.requires.5 k (omega arith))

-- the lists are those that are sought
sought : (c : After-others-known) → Sought (length c.args.numbers.now) c.args.plain.now (take (length c.args.plain.now) c.mark_columns-marks.result) c.args.parity.now c.noughts-missing.result.now c.others-known.result.now
sought c =
    let plain : List ℕ = c.args.plain.now in
    let marks : List ℕ = take (length plain) c.mark_columns-marks.result in
    let columns = c.list_places-columns in
    let parity : List ℕ = c.args.parity.now in
    let missing = c.noughts-missing in
    let known = c.others-known in
    let same : length plain ≡ length c.args.numbers.now = c.requires.4 in
    let whole : length marks ≡ length c.args.numbers.now = length-take-le (length plain) c.mark_columns-marks.result (omega arith) ∙ same in
    record {
      marked = subst (λ (n : ℕ). Marked n plain marks) same (marked-front (length plain) plain c.mark_columns-marks.result (spread (goal.at.parity_rows-rows-requires c).Start) c.mark_columns-marks.ensures);
      received = subst (λ (n : ℕ). AreNoughts plain n parity (length parity)) same c.requires.6;
      gaps = subst (λ (n : ℕ). AreNoughts marks n missing.result.now (length missing.result.now)) whole (noughts-at marks columns.result.noughts missing.result.now (length marks) columns.result.count missing.ensures columns.ensures.0);
      others = subst (λ (n : ℕ). AreOthers marks n known.result.now) whole (others-at marks columns.result.others known.result.now (length marks) columns.result.rest known.ensures (omega (arith, columns.ensures.0.all, columns.ensures.2)) columns.ensures.1);
      rest = omega (arith, missing.ensures.1, known.ensures.1, columns.ensures.2, whole);
    }

-- what holds of the lists
facts : (c : After-others-known) → Facts (length c.args.numbers.now) c.args.parity.now c.noughts-missing.result.now c.others-known.result.now
facts c = facts-of c.args.numbers.now c.args.plain.now c.requires.0 (pages (goal.at.parity_rows-rows-requires c).Start) c.requires.5 _ c.args.parity.now c.noughts-missing.result.now c.others-known.result.now (sought c)

pub mark_columns-marks-requires : goal.mark_columns-marks-requires
mark_columns-marks-requires c = (omega arith, spread (goal.at.mark_columns-marks-requires c).Start)

pub parity_rows-rows-requires : goal.parity_rows-rows-requires
parity_rows-rows-requires c =
    let f = facts c in
    (c.requires.0, c.requires.2, omega (arith, f.whole), f.numbered-parity)

pub reduced_rows-square-requires : goal.reduced_rows-square-requires
reduced_rows-square-requires c =
    let f = facts (goal.at.reduced_rows-square-requires c).After-others-known in
    (omega (arith, f.many, f.whole), f.numbered-missing)

pub reduce_sides-requires : goal.reduce_sides-requires
reduce_sides-requires c =
    let f = facts (goal.at.reduce_sides-requires c).After-others-known in (
      omega (arith, f.whole),
      c.requires.1 ∙ ap (λ (n : ℕ). n * 53) (sym f.whole),
      subst (λ (n : ℕ). Numbered (length c.args.parity.now) n c.args.parity.now) (sym f.whole) f.numbered-parity,
      f.numbered-known,
    )

pub solve_square-requires : goal.solve_square-requires
solve_square-requires c =
    let a = c.args in
    let d = (goal.at.solve_square-requires c).After-others-known in
    let f = facts d in (
      omega (arith, f.whole),
      regular-of a.numbers.now a.plain.now c.requires.0 (pages (goal.at.solve_square-requires c).Start) c.requires.5 _ c.args.parity.now c.noughts-missing.result.now c.others-known.result.now (sought d)
          c.parity_rows-rows.result c.reduced_rows-square.result c.parity_rows-rows.ensures c.reduced_rows-square.ensures,
    )

pub lay_pages-requires : goal.lay_pages-requires
lay_pages-requires c =
    let f = facts (goal.at.lay_pages-requires c).After-others-known in
    let long : length c.solve_square.new.sides ≡ 1696 = c.solve_square.array_long in
    (omega (arith, f.many, f.whole), omega (arith, f.many, f.whole), f.spread)

pub returns : goal.returns
returns c =
    let a = c.args in
    let d = (goal.at.returns c).After-others-known in
    completed-of a.numbers.now a.plain.now c.requires.0 (pages (goal.at.returns c).Start) c.requires.5 _ c.args.parity.now c.noughts-missing.result.now c.others-known.result.now (sought d)
    c.parity_rows-rows.result c.reduced_rows-square.result c.parity_rows-rows.ensures c.reduced_rows-square.ensures
    a.contents.now a.out.now c.reduce_sides.new.sides c.solve_square.new.sides c.lay_pages.new.out c.reduce_sides.ensures c.solve_square.ensures.0 c.lay_pages.ensures
