-- Parsers of several things and of what may be missing, and the bits of what they read.
-- A list is read as its first and then the others, each behind what came before it.
use Prim.Native.Nat.{ℕ, zero, suc, ◌<◌, ◌^◌}
use native.Mathlib.Omega.{arith}
use mathlib.Core.Bool.{Bool, true, false, false≢true}
use mathlib.Core.List.{List, [], ◌∷◌, ◌++◌, map, append-nil, append_assoc}
use mathlib.Core.Option.{Option, none, some}
use mathlib.Core.Path.{◌≡◌, refl, sym, ap, ◌∙◌}
use lib.Dec.{eqb}
use lib.ListN.{length, drop}
use borrow.Author.Tests.{eqb-true}
use Rattle.bits.specs.Bits.{bits}
use Rattle.lists.specs.Lists.{Every, memb}
use Rattle.lists.proofs.Tests.{on_bool}
use Rattle.mt1.specs.Parse.{Parser, ◌>>=◌, ret, times, for_each, optional, wrong_id, systems}
use Rattle.mt1.specs.Encode.{each, each_of, if_there}
use Rattle.mt1.specs.Valid.{IdsOk, EachOf, Row, IfFlag}
use Rattle.mt1.proofs.Combinators.{Reads, some-none, bind, last, ret-reads, reads_ok, reads-bits, judged-reads}

-- ---- a list by its first and the others
abbrev First : {A : Type 0} → (A → Type 0) → (A → List A → Type 0) → List A → Type 0
First OkA OkB [] = ⊥
First OkA OkB (x ∷ xs) = OkA x × OkB x xs

abbrev first_bits : {A : Type 0} → (A → List Bool) → (List A → List Bool) → List A → List Bool
first_bits f g [] = []
first_bits f g (x ∷ xs) = f x ++ g xs

nil-reads : {A : Type 0} {Ok : List A → Type 0} {enc : List A → List Bool} → Ok [] → enc [] ≡ [] → ((x : A) (xs : List A) → Ok (x ∷ xs) → ⊥) → Reads (ret []) Ok enc
nil-reads {A} {Ok} {enc} o e never = reads-bits (λ l h. rw (is l h) (sym e)) (reads_ok (λ l h. rw h o) is (ret-reads []))
  where
    is : (l : List A) → Ok l → l ≡ []
    is [] h = refl
    is (x ∷ xs) h = absurd (never x xs h)

cons-reads : {A : Type 0} {p : Parser A} {q : A → Parser (List A)} {OkA : A → Type 0} {enc_a : A → List Bool} {OkB : A → List A → Type 0} {enc_b : List A → List Bool}
    → Reads p OkA enc_a → ((x : A) → OkA x → Reads (q x) (OkB x) enc_b) → Reads (p >>= λ x. q x >>= λ xs. ret (x ∷ xs)) (First OkA OkB) (first_bits enc_a enc_b)
cons-reads {A} {OkA = OkA} {OkB = OkB} P Q = bind (λ x l o r. rw r.1 ((o, r.0), refl)) from P (λ x o. last (drop 1) (λ xs. refl) (Q x o))
  where
    from : (l : List A) → First OkA OkB l → (x : A) × OkA x × (OkB x (drop 1 l) × (l ≡ x ∷ drop 1 l))
    from [] h = absurd h
    from (x ∷ xs) h = (x, h.0, (h.1, refl))

-- ---- n in a row, one for each of a list
pub times-reads : {A : Type 0} {p : Parser A} {Ok : A → Type 0} {enc : A → List Bool} (n : ℕ) → Reads p Ok enc → Reads (times n p) (Row n Ok) (each enc)
unfolding times each
times-reads zero P = nil-reads (refl, tt) refl (λ x xs o. omega (arith, o.0))
times-reads {A} {Ok = Ok} {enc} (suc n) P = reads_ok to from (reads-bits (λ xs o. same xs) (cons-reads P (λ x o. times-reads n P)))
  where
    to : (xs : List A) → First Ok (λ x. Row n Ok) xs → Row (suc n) Ok xs
    to [] o = absurd o
    to (x ∷ xs) o = (ap suc o.1.0, (o.0, o.1.1))

    from : (xs : List A) → Row (suc n) Ok xs → First Ok (λ x. Row n Ok) xs
    from [] o = let z : ⊥ = omega (arith, o.0) in absurd z
    from (x ∷ xs) o = (o.1.0, (omega (arith, o.0), o.1.1))

    same : (xs : List A) → first_bits enc (each enc) xs ≡ each enc xs
    same [] = refl
    same (x ∷ xs) = refl

pub for_each-reads : {S A : Type 0} {p : S → Parser A} {Ok : S → A → Type 0} {enc : S → A → List Bool} (ss : List S)
    → ((s : S) → Reads (p s) (Ok s) (enc s)) → Reads (for_each ss p) (EachOf Ok ss) (each_of enc ss)
unfolding for_each each_of
for_each-reads [] P = nil-reads tt refl (λ x xs o. o)
for_each-reads {A = A} {Ok = Ok} {enc} (s ∷ ss) P = reads_ok to from (reads-bits (λ xs o. same xs) (cons-reads (P s) (λ x o. for_each-reads ss P)))
  where
    to : (xs : List A) → First (Ok s) (λ x. EachOf Ok ss) xs → EachOf Ok (s ∷ ss) xs
    to [] o = o
    to (x ∷ xs) o = o

    from : (xs : List A) → EachOf Ok (s ∷ ss) xs → First (Ok s) (λ x. EachOf Ok ss) xs
    from [] o = o
    from (x ∷ xs) o = o

    same : (xs : List A) → first_bits (enc s) (each_of enc ss) xs ≡ each_of enc (s ∷ ss) xs
    same [] = refl
    same (x ∷ xs) = refl

pub each_of_lem : {S A : Type 0} (Ok : S → A → Type 0) (f : A → List Bool) (ss : List S) (xs : List A) → EachOf Ok ss xs → each_of (λ s. f) ss xs ≡ each f xs
unfolding each each_of
each_of_lem Ok f [] [] o = refl
each_of_lem Ok f [] (x ∷ xs) o = absurd o
each_of_lem Ok f (s ∷ ss) [] o = absurd o
each_of_lem Ok f (s ∷ ss) (x ∷ xs) o = ap (λ (l : List Bool). f x ++ l) (each_of_lem Ok f ss xs o.1)

-- the same where the bits do not go by the list's own
pub for_each-same : {S A : Type 0} {p : S → Parser A} {Ok : S → A → Type 0} {enc : A → List Bool} (ss : List S)
    → ((s : S) → Reads (p s) (Ok s) enc) → Reads (for_each ss p) (EachOf Ok ss) (each enc)
for_each-same {Ok = Ok} {enc} ss P = reads-bits (each_of_lem Ok enc ss) (for_each-reads ss P)

-- ---- what may be missing
-- what is there exactly if its flag is 1, by cases
pub if-flag : {A : Type 0} (P : A → Type 0) (Q : Bool → Option A → Type 0) → ((x : A) → P x → Q true (some x)) → Q false none → (flag : Bool) (b : Option A) → IfFlag flag P b → Q flag b
if-flag P Q f g true none o = absurd o
if-flag P Q f g true (some x) o = f x o
if-flag P Q f g false none o = g
if-flag P Q f g false (some x) o = absurd o

pub optional-reads : {A : Type 0} {p : Parser A} {Ok : A → Type 0} {enc : A → List Bool} (flag : Bool) → Reads p Ok enc → Reads (optional flag p) (IfFlag flag Ok) (if_there enc)
optional-reads {A} {Ok = Ok} {enc} true P = bind (λ x b o e. rw e (o, sym (append-nil (enc x)))) from P (λ x o. ret-reads (some x))
  where
    from : (b : Option A) → IfFlag true Ok b → (x : A) × Ok x × (b ≡ some x)
    from none o = absurd o
    from (some x) o = (x, o, refl)
optional-reads {A} {Ok = Ok} {enc} false P = reads-bits bare (reads_ok (λ b e. rw e tt) is (ret-reads none))
  where
    is : (b : Option A) → IfFlag false Ok b → b ≡ none
    is none o = refl
    is (some x) o = absurd o

    bare : (b : Option A) → IfFlag false Ok b → [] ≡ if_there enc b
    bare none o = refl
    bare (some x) o = absurd o

-- ---- systems by GNSS ID
pub wrong-none : (may came : List ℕ) (id : ℕ) → wrong_id may came id ≡ none → (memb id may ≡ true) × (memb id came ≡ false)
unfolding wrong_id
wrong-none may came id = on_bool (memb id may)
    (λ m. on_bool (memb id came) (λ c. rw (m, c) λ e. absurd (some-none e)) (λ c. rw (m, c) λ e. (refl, refl)))
    (λ m. rw m λ e. absurd (some-none e))

none-wrong : (may came : List ℕ) (id : ℕ) → memb id may ≡ true → memb id came ≡ false → wrong_id may came id ≡ none
unfolding wrong_id
none-wrong may came id m c = rw (m, c)

pub memb-every : (P : ℕ → Type 0) (l : List ℕ) (id : ℕ) → Every P l → memb id l ≡ true → P id
memb-every P [] id o = λ e. absurd (false≢true e)
memb-every P (x ∷ l) id o = on_bool (eqb id x) (λ t. rw t λ e. rw (eqb-true id x t) o.0) (λ t. rw t λ e. memb-every P l id o.1 e)

-- n systems that come with different IDs of those that may come, and none that came
abbrev pub SystemsOk : {A : Type 0} → List ℕ → (A → ℕ) → (A → Type 0) → List ℕ → ℕ → List A → Type 0
SystemsOk may id_of Ok came n xs = (length xs ≡ n) × IdsOk may came (map id_of xs) × Every Ok xs

pub systems-reads : {A : Type 0} (may : List ℕ) {p : ℕ → Parser A} {Ok : A → Type 0} {g : A → List Bool} (id_of : A → ℕ) (came : List ℕ) (n : ℕ)
    → Every (λ i. i < 2 ^ 4) may → ((id : ℕ) → Reads (p id) (λ x. (id_of x ≡ id) × Ok x) g)
    → Reads (systems may p came n) (SystemsOk may id_of Ok came n) (each (λ x. bits 4 (id_of x) ++ g x))
unfolding systems each
systems-reads may id_of came zero small P = nil-reads (refl, tt, tt) refl (λ x xs o. omega (arith, o.0))
systems-reads {A} may {Ok = Ok} {g} id_of came (suc n) small P = bind to from (judged-reads 4 (wrong_id may came)) (λ id o. cons-reads (P id) (λ x h. systems-reads may id_of (id ∷ came) n small P))
  where
    f : A → List Bool
    f x = bits 4 (id_of x) ++ g x

    to : (id : ℕ) (xs : List A) → (id < 2 ^ 4) × (wrong_id may came id ≡ none) → First (λ x. (id_of x ≡ id) × Ok x) (λ x. SystemsOk may id_of Ok (id ∷ came) n) xs
        → SystemsOk may id_of Ok came (suc n) xs × (each f xs ≡ bits 4 id ++ first_bits g (each f) xs)
    to id [] w o = absurd o
    to id (x ∷ xs) w o =
        let (m, c) = wrong-none may came id w.1 in
        let e = o.0.0 in (
          (ap suc o.1.0, rw e (m, c, o.1.1), (o.0.1, o.1.2)),
          append_assoc (bits 4 (id_of x)) (g x) (each f xs) ∙ ap (λ (i : ℕ). bits 4 i ++ (g x ++ each f xs)) e,
        )

    from : (xs : List A) → SystemsOk may id_of Ok came (suc n) xs
        → (id : ℕ) × ((id < 2 ^ 4) × (wrong_id may came id ≡ none)) × First (λ x. (id_of x ≡ id) × Ok x) (λ x. SystemsOk may id_of Ok (id ∷ came) n) xs
    from [] o = let z : ⊥ = omega (arith, o.0) in absurd z
    from (x ∷ xs) o = (
      id_of x,
      (memb-every (λ i. i < 2 ^ 4) may (id_of x) small o.1.0, none-wrong may came (id_of x) o.1.0 o.1.1),
      ((refl, o.2.0), (omega (arith, o.0), o.1.2, o.2.1)),
    )
