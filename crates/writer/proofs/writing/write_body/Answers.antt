-- The list is rendered, read back and held against itself; what is answered follows from the laws of the body.
use Prim.Native.Nat.{ℕ, ◌≤◌}
use native.Mathlib.Omega.{arith}
use mathlib.Core.Path.{◌≡◌, refl, ◌∙◌}
use lib.ListN.{length, take, length-replicate}
use lib.Seq.{length-take-le}
use Rattle.lists.proofs.Tests.{clash}
use Rattle.writer.proofs.Bodies.{few-long, body-form, body-long, body-size}
use Rattle.writer.proofs.Written.{size-refused}
use Rattle.writer.proofs.writing.write_body.Goals as goal
use Rattle.writer.proofs.writing.write_body.Goals.{After-div_ceil}

room : (c : After-div_ceil) → length c.render.new.body.octets ≡ 20480
room c = c.render.ensures.room ∙ length-replicate {A = ℕ} 20480 0

read-few : (c : After-div_ceil) → (4 ≤ c.div_ceil.result) × (c.div_ceil.result ≤ 20480)
read-few c = few-long c.args.records.now refl c.render.ensures (room c) c.requires.0.few c.div_ceil.result c.div_ceil.ensures

read-length : (c : After-div_ceil) → length (take c.div_ceil.result c.render.new.body.octets) ≡ c.div_ceil.result
read-length c = length-take-le c.div_ceil.result c.render.new.body.octets (omega (arith, (read-few c).1, room c))

pub shared_ref_as_front-reads_back : goal.shared_ref_as_front-reads_back
shared_ref_as_front-reads_back c = (read-few (goal.at.shared_ref_as_front-reads_back c).After-div_ceil).1

pub reads_back-requires : goal.reads_back-requires
reads_back-requires c =
    let d = (goal.at.reads_back-requires c).After-div_ceil in
    (omega (arith, read-length d, (read-few d).0), omega (arith, read-length d, (read-few d).1), c.requires.0)

pub returns-then-not-reads_back : goal.returns-then-not-reads_back
returns-then-not-reads_back c = (
  body-form c.args.records.now refl c.render.ensures (room (goal.at.returns-then-not-reads_back c).After-div_ceil) c.requires.0.few c.div_ceil.result c.div_ceil.ensures (record { id = c.args.mask_id; octets = c.args.mask.now }) c.args.out.now c.args.out.now
      (λ t. clash (c.reads_back.ensures.1 t) c.if-not-reads_back.true),
  λ w e. refl,
)

pub returns-then-end-gt-MESSAGE_BITS : goal.returns-then-end-gt-MESSAGE_BITS
returns-then-end-gt-MESSAGE_BITS c = (
  body-long c.args.records.now refl c.render.ensures (room (goal.at.returns-then-end-gt-MESSAGE_BITS c).After-div_ceil) c.requires.0.few c.div_ceil.result c.div_ceil.ensures (record { id = c.args.mask_id; octets = c.args.mask.now }) c.args.out.now c.args.out.now
      (c.reads_back.ensures.0 c.if-not-reads_back.false) c.if-end-gt-MESSAGE_BITS.true,
  λ w e. refl,
)

pub returns : goal.returns
returns c = (
  body-size c.args.records.now refl c.render.ensures (room (goal.at.returns c).After-div_ceil) c.requires.0.few c.div_ceil.result c.div_ceil.ensures (record { id = c.args.mask_id; octets = c.args.mask.now }) c.args.out.now c.copy_from_slice.new.self c.div_ceil-size.result c.fill.new.self
      (c.reads_back.ensures.0 c.if-not-reads_back.false) (omega (arith, c.if-end-gt-MESSAGE_BITS.false)) (omega (arith, c.div_ceil-size.ensures)) c.fill.ensures (c.fill.ensures.room ∙ room (goal.at.returns c).After-div_ceil) (λ i. (c.type_inv.out i).fits) c.copy_from_slice.ensures.after,
  λ w e. absurd (size-refused e),
)
