-- Where traps go.
use Rattle.std.proofs.Common.{◌≡◌, ℕ, ◌%◌, arith}
use Rattle.memory_map.specs.declared.TheConstants.{GRAIN}
use Rattle.rv_csr.specs.declared.csrs.Csrs.{Csrs}
use Rattle.rv_csr.specs.Traps.{vector}

-- an instruction can begin where a trap goes
pub vector_aligned : (c : Csrs) (cause : ℕ) → vector c cause % GRAIN ≡ 0
vector_aligned c cause = grind arith
