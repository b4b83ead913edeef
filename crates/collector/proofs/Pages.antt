-- A page joins those of a place, and the last one of a key is solved: what the code holds then is the image of the step.
-- The page is laid behind the others in its part of the store; what `solve` is given are the numbers and contents of the pages, so it leaves their message.
use mathlib.Core.Path.{◌≡◌, refl, sym, ap, ap₂, ◌∙◌, subst}
use mathlib.Core.List.{List, [], ◌∷◌, ◌++◌}
use Prim.Native.Nat.{ℕ, suc, ◌+◌, ◌-◌, ◌*◌, ◌≤◌, ◌<◌}
use native.Mathlib.Numerals.{add-one}
use native.Mathlib.Omega.{arith}
use borrow.Author.Tests.{eq-eqb, ne_eqb}
use lib.ListN.{length, get_or, set, take, drop, replicate, length-set}
use lib.Seq.{set-set, get_or-set_same}
use Rattle.pagecode.specs.Answer.{Answer}
use Rattle.pagecode.specs.Field.{Octets}
use Rattle.pagecode.specs.Solve.{Solved, solve_answer}
use Rattle.pagecode.proofs.Promises.{Solvable, solution-has, solved-buffer}
use Rattle.collector.specs.declared.state.Key.{Key as KeyImage}
use Rattle.collector.specs.declared.state.PlaceState.TheVariants.{Open, Done}
use Rattle.collector.specs.declared.state.Place.{Place as PlaceImage}
use Rattle.collector.specs.declared.state.Head.{Head}
use Rattle.collector.specs.declared.state.Fed.TheVariants.{Kept, Ready}
use Rattle.collector.specs.declared.state.Fed.{Fed}
use Rattle.collector.specs.declared.keeping.Waiting.{Waiting}
use Rattle.std.specs.Prelude.{Result, Ok}
use Rattle.refusal.specs.declared.Refusal.{Refusal}
use Rattle.lists.specs.Lists.{Every, laid}
use Rattle.collector.specs.Place.{Key, Held, Place, free, waiting, done, pages_in, numbers, contents}
use Rattle.collector.specs.Feed.{Collector, ready, grow, held_of, message_of}
use Rattle.collector.specs.Valid.{PageOk}
use Rattle.collector.specs.Image.{padded, place_image, store_image, head_image}
use Rattle.collector.specs.Steps.{Does, settled_at, Keeping, Finishing}
use Rattle.collector.proofs.Lists.{length-snoc, every_front, every_back, map-set, every_set}
use Rattle.collector.proofs.Places.{numbers-length}
use Rattle.collector.proofs.PageCode.{Long, contents-length, long-pages, solvable}
use Rattle.collector.proofs.Headers.{page-is}
use Rattle.collector.proofs.Images.{padded-none, numbers-front, numbers-next, Roomy, roomy-places, store_length, store-whole, store-free, store-more, store-pages}

-- ---- one place is set
-- a head, with place i set
abbrev pub set_at : Head → ℕ → PlaceImage → Head
set_at image i q = record { timeout = image.timeout; last = image.last; places = set image.places i q }

head-set : (c : Collector) (image : Head) (i : ℕ) (p : Place) (q : PlaceImage) → image ≡ head_image c → q ≡ place_image p
    → set_at image i q ≡ head_image (record { timeout = c.timeout; last = c.last; places = set c.places i p })
head-set c image i p q e g =
    ap₂ (λ (h : Head) (x : PlaceImage). set_at h i x) e g
    ∙ ap (λ (ps : List PlaceImage). record { timeout = c.timeout; last = c.last; places = ps }) (sym (map-set place_image c.places i p))

-- ---- the last page has come
-- the tests of `solve` pass
good : (contents numbers : List ℕ) → Solvable numbers contents → solve_answer contents numbers 1696 ≡ Ok tt
unfolding solve_answer
good contents numbers s = rw (s.pages, s.legal, s.apart)

module _
    {c : Collector} {k : Key} {pages : List Held} {image : Head} {octets : List ℕ} {i : ℕ} {w : Waiting}
    (f : Finishing c k pages image octets i w)
  where
    size : w.key.size ≡ length pages
    size = ap (λ (x : KeyImage). x.size) f.key ∙ sym f.all

    pub finishing-few : w.key.size ≤ 32
    finishing-few = omega (arith, ap (λ (x : KeyImage). x.size) f.key, f.together.key.few)

    long : Every Long pages
    long = long-pages k pages f.together.each

    many : length (contents pages) ≡ length pages * 53
    many = contents-length pages long

    abbrev held : List Place
    held = set c.places i (waiting k w.first pages)

    eight : length held ≡ 8
    eight = length-set c.places i (waiting k w.first pages) ∙ f.valid.eight

    roomy : Every Roomy held
    roomy = every_set Roomy c.places i (waiting k w.first pages) (roomy-places c.places f.valid.each) (omega (arith, many, size, finishing-few))

    pub finishing-length : length octets ≡ 13568
    finishing-length = ap length f.store ∙ store_length held roomy ∙ ap (λ (n : ℕ). n * 1696) eight

    -- what `solve` is given
    given-contents : take (i * 1696 + w.key.size * 53 - i * 1696) (drop (i * 1696) octets) ≡ contents pages
    given-contents =
        let many : i * 1696 + w.key.size * 53 - i * 1696 ≡ w.key.size * 53 = omega arith in
        ap (λ (n : ℕ). take n (drop (i * 1696) octets)) many
        ∙ ap₂ (λ (n : ℕ) (l : List ℕ). take (n * 53) (drop (i * 1696) l)) size f.store
        ∙ store-pages held i pages roomy (omega (arith, eight, f.at)) (ap pages_in (get_or-set_same c.places i (waiting k w.first pages) free (omega (arith, f.valid.eight, f.at)))) long

    given-numbers : take w.key.size w.numbers ≡ numbers pages
    given-numbers = ap₂ take size f.numbers ∙ numbers-front 32 pages

    can : Solvable (numbers pages) (contents pages)
    can = solvable k f.together.key pages f.together.differ f.together.each f.all

    -- the message has as many octets as the contents
    message-length : length (message_of pages) ≡ length (contents pages)
    message-length = omega (arith, (solution-has (numbers pages) (contents pages) can).long, numbers-length pages, many)

    -- `solve` is given the contents and the numbers
    module _ {n : ℕ} {part wide before after : List ℕ} {answer : Answer}
        (e : n ≡ w.key.size) (p : part ≡ take (i * 1696 + n * 53 - i * 1696) (drop (i * 1696) octets)) (q : wide ≡ take n w.numbers)
        (l : length before ≡ 1696) (s : Solved part wide before answer after)
      where
        told : Solved (contents pages) (numbers pages) before answer after
        told =
            subst (λ (x : List ℕ). Solved x (numbers pages) before answer after)
            (p ∙ ap (λ (m : ℕ). take (i * 1696 + m * 53 - i * 1696) (drop (i * 1696) octets)) e ∙ given-contents)
            (subst (λ (x : List ℕ). Solved part x before answer after) (q ∙ ap (λ (m : ℕ). take m w.numbers) e ∙ given-numbers) s)

        -- it refuses nothing
        pub unrefused : answer ≡ Ok tt
        unrefused = told.answered ∙ ap (solve_answer (contents pages) (numbers pages)) l ∙ good (contents pages) (numbers pages) can

        -- the message is in the buffer, and the place is done
        pub finished : {octets' : List ℕ} → octets' ≡ laid octets (i * 1696) (replicate 1696 0)
            → Does (settled_at c i (record { answer = ready k.size (message_of pages); place = done k w.first })) before
            (Ok (Ready n)) (set_at image i (record { state = Done w.key w.first; numbers = replicate 32 0 })) octets' after
        finished o =
            record {
              answer = ap (λ (m : ℕ). Ok (Ready m)) (e ∙ ap (λ (x : KeyImage). x.size) f.key);
              head = head-set c image i (done k w.first) (record { state = Done w.key w.first; numbers = replicate 32 0 }) f.head
                  (ap₂ (λ (x : KeyImage) (y : List ℕ). record { state = Done x w.first; numbers = y }) f.key (sym (padded-none 32)));
              store =
                  o ∙ ap (λ (x : List ℕ). laid x (i * 1696) (replicate 1696 0)) f.store
                  ∙ sym (store-free held i (done k w.first) roomy (omega (arith, eight, f.at)) refl)
                  ∙ ap store_image (set-set c.places i (waiting k w.first pages) (done k w.first));
              buffer =
                  solved-buffer (contents pages) (numbers pages) before after can
                  (subst (λ (a : Answer). Solved (contents pages) (numbers pages) before a after) unrefused told)
                  ∙ ap (λ (n : ℕ). message_of pages ++ drop n before) (sym message-length);
            }

-- ---- a page joins those of place i
module _
    {c : Collector} {k : Key} {pages : List Held} {image : Head} {octets : List ℕ} {i : ℕ} {w : Waiting} {page : List ℕ}
    (t : Keeping c k pages image octets i w page)
  where
    pub keeping-length : length octets ≡ 13568
    keeping-length = ap length t.state.store ∙ store-whole c.places t.state.valid.eight t.state.valid.each

    keeping-few : w.count < 32
    keeping-few = omega (arith, t.count, t.few, t.together.key.few)

    abbrev more : List Held
    more = pages ++ (held_of page ∷ [])

    more-length : length more ≡ w.count + 1
    more-length = length-snoc pages (held_of page) ∙ ap suc (sym t.count) ∙ sym (add-one w.count)

    key-size : w.key.size ≡ k.size
    key-size = ap (λ (x : KeyImage). x.size) t.key

    -- where the page is laid
    behind : w.count * 53 ≡ length (contents (pages_in (get_or c.places i free)))
    behind =
        ap (λ (m : ℕ). m * 53) t.count
        ∙ sym (contents-length pages (long-pages k pages (every_front (PageOk k) pages (held_of page ∷ []) t.together.each)))
        ∙ ap (λ (l : List Held). length (contents l)) (sym t.held)

    module _ {octets' : List ℕ} (o : Octets page) (e : octets' ≡ laid octets (i * 1696 + w.count * 53) (drop 3 page)) where
      more-store : octets' ≡ store_image (set c.places i (waiting k w.first more))
      more-store =
          e ∙ ap₂ (λ (l : List ℕ) (m : ℕ). laid l (i * 1696 + m) (drop 3 page)) t.state.store behind
          ∙ sym (store-more c.places i (get_or c.places i free) (waiting k w.first more) (held_of page) (roomy-places c.places t.state.valid.each)
          (omega (arith, t.state.valid.eight, t.at)) refl (ap (λ (l : List Held). l ++ (held_of page ∷ [])) (sym t.held))
          (every_back (PageOk k) pages (held_of page ∷ []) t.together.each).0.long (omega (arith, behind, keeping-few)))

      more_numbers : set w.numbers w.count (get_or page 2 0) ≡ padded 32 (numbers more)
      more_numbers =
          ap₂ (λ (l : List ℕ) (m : ℕ). set l m (get_or page 2 0)) t.numbers t.count
          ∙ numbers-next 32 pages (held_of page) (get_or page 2 0) (page-is page o) (omega (arith, keeping-few, t.count))

      -- it is the last
      pub keeping-last : w.count + 1 ≡ w.key.size → Finishing c k more image octets' i (record { key = w.key; first = w.first; count = w.count + 1; numbers = set w.numbers w.count (get_or page 2 0) })
      keeping-last h =
          record {
            valid = t.state.valid;
            head = t.state.head;
            store = more-store;
            at = t.at;
            key = t.key;
            all = more-length ∙ h ∙ key-size;
            numbers = more_numbers;
            together = t.together;
          }

      -- it is not the last
      pub kept-page : {before : List ℕ} → (w.count + 1 ≡ w.key.size → ⊥)
          → Does (settled_at c i (grow k w.first more)) before
          (Ok (Kept (w.count + 1))) (set_at image i (record { state = Open w.key w.first (w.count + 1); numbers = set w.numbers w.count (get_or page 2 0) })) octets' before
      unfolding grow
      kept-page h =
          rw (ne_eqb (length more) k.size (λ g. h (sym more-length ∙ g ∙ sym key-size)))
          (record {
            answer = ap (λ (m : ℕ). Ok (Kept m)) (sym more-length);
            head = head-set c image i (waiting k w.first more) (record { state = Open w.key w.first (w.count + 1); numbers = set w.numbers w.count (get_or page 2 0) }) t.state.head new;
            store = more-store;
            buffer = refl;
          })
        where
          new : record { state = Open w.key w.first (w.count + 1); numbers = set w.numbers w.count (get_or page 2 0) } ≡ place_image (waiting k w.first more)
          new = λ z. record { state = Open (t.key z) w.first (sym more-length z); numbers = more_numbers z }

    -- what is done with the last page is what the step does
    pub ready-page : {before after octets' : List ℕ} {a : Result Fed Refusal} {head : Head} → w.count + 1 ≡ w.key.size
        → Does (settled_at c i (record { answer = ready k.size (message_of more); place = done k w.first })) before a head octets' after
        → Does (settled_at c i (grow k w.first more)) before a head octets' after
    unfolding grow
    ready-page h d = rw (eq-eqb (length more) k.size (more-length ∙ h ∙ key-size)) d
