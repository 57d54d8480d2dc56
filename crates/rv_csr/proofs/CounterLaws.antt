-- Steps that write no counter: how the counters stand after several of them.
use Rattle.std.proofs.Common.{◌≡◌, ℕ, suc, ◌+◌, ◌%◌, ◌^◌, false, true, arith}
use Rattle.rv_csr.specs.declared.csrs.Csrs.{Csrs}
use Rattle.rv_csr.specs.Traps.{counted}

-- the counters after so many steps that retired an instruction and wrote no counter
abbrev pub counted_by : ℕ → Csrs → Csrs
counted_by steps c =
    record c { mcycle = (c.mcycle + steps) % 2 ^ 64; minstret = (c.minstret + steps) % 2 ^ 64; mcycle_written = false; minstret_written = false }

-- a counter that rises once more
once_more : (counter steps : ℕ) → ((counter + steps) % 2 ^ 64 + 1) % 2 ^ 64 ≡ (counter + suc steps) % 2 ^ 64
once_more counter steps = omega arith

-- after one more
pub counted_more : (steps : ℕ) (c : Csrs) → counted (counted_by steps c) true ≡ counted_by (suc steps) c
counted_more steps c = rw (once_more c.mcycle steps, once_more c.minstret steps)
