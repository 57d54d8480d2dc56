-- A product of two numbers of 32 bits fits 64.
use Rattle.std.proofs.Common.{◌^◌, ◌≤◌, w64, unsigned_abs, arith}
use Rattle.std.proofs.lemmas.Int.{fits_signed_mul, to_z-of_z}
use Rattle.rv_cpu.proofs.alu.high_signed.Goals as goal

pub overflow_mul-widen : goal.overflow_mul-widen
overflow_mul-widen c =
    let first : unsigned_abs c.widen.result ≤ 2 ^ 31 = grind (arith, c.widen.ensures.least, c.widen.ensures.most) in
    let second : unsigned_abs c.widen-2.result ≤ 2 ^ 31 = grind (arith, c.widen-2.ensures.least, c.widen-2.ensures.most) in
    rw (to_z-of_z w64 c.widen.result (record { sfits = c.widen.type_inv }), to_z-of_z w64 c.widen-2.result (record { sfits = c.widen-2.type_inv }))
    (fits_signed_mul w64 c.widen.result c.widen-2.result (2 ^ 31) (2 ^ 31) first second (omega arith))
