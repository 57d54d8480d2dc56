use Rattle.std.proofs.Common.{◌≡◌, ◌-◌, ◌<◌, ◌++◌, length, take, refl, ◌∙◌, arith, rules}
use Rattle.list_laws.proofs.PrefixLaws.{empty_IsPrefix}
use Rattle.after_edge.proofs.ReadLaws.{HasRead-end, HasRead-next, HasRead-longer, HasRead-there, HasRead-absent}
use Rattle.after_edge.proofs.reading.read_through.Goals as goal

pub pieces-init : goal.pieces-init
pieces-init g c = rw c.new-bytes.ensures.items (record { begins = λ files told. record { front = empty_IsPrefix _ }; within = omega arith; still = refl }, refl)

pub returns-in-Err-Absent-clause-cause : goal.returns-in-Err-Absent-clause-cause
returns-in-Err-Absent-clause-cause g c =
    let cause = rw c.in-Err-Absent.field-0-is at c.in-Err-Absent.ensures in
    HasRead-absent _ _ _ _ _ _ _ c.pieces.invariant.0 c.pieces.invariant.1 _ cause.cause

pub returns-then-count-eq0-clause-whole : goal.returns-then-count-eq0-clause-whole
returns-then-count-eq0-clause-whole g c =
    let here : c.len.result ≡ length c.pieces.bytes.items = search rules in
    HasRead-end _ _ _ _ _ _ _ c.pieces.invariant.0 c.pieces.invariant.1 _ _ _ here c.if-count-eq0.true c.in-Ok.ensures.read

pub returns-then-max-len-clause-cause : goal.returns-then-max-len-clause-cause
returns-then-max-len-clause-cause g c =
    let here : c.len.result ≡ length c.pieces.bytes.items = search rules in
    let more : c.args.max - c.len.result < c.in-Ok.count = omega arith in
    (refl, HasRead-longer _ _ _ _ _ _ _ c.pieces.invariant.0 c.pieces.invariant.1 _ _ _ here more c.in-Ok.ensures.read, c.in-Ok.ensures.cause ∙ c.pieces.invariant.0.still)

pub returns-in-Err-clause-cause : goal.returns-in-Err-clause-cause
returns-in-Err-clause-cause g c =
    (HasRead-there _ _ _ _ _ _ _ c.pieces.invariant.0 c.pieces.invariant.1 _ _ _ c.in-Ok.ensures.read, c.in-Ok.ensures.cause ∙ c.pieces.invariant.0.still)

pub pieces-preserved : goal.pieces-preserved
pieces-preserved g c =
    let here : c.len.result ≡ length c.pieces.bytes.items = search rules in
    let joined : c.extend_from_slice.new.self.items ≡ c.pieces.bytes.items ++ take c.in-Ok.count c.read.new.buf = search rules in
    let long : length (take c.in-Ok.count c.read.new.buf) ≡ c.in-Ok.count = search rules in
    (HasRead-next _ _ _ _ _ _ _ c.pieces.invariant.0 c.pieces.invariant.1 _ _ _ _ _ here joined long (omega arith) c.in-Ok.ensures.cause c.in-Ok.ensures.read, c.read.ensures.same ∙ c.pieces.invariant.1)
