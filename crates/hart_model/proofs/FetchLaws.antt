-- What a fetch that found a word says.
use Rattle.std.proofs.Common.{◌≡◌, ℕ, Bool, true, false, List, length, refl, subst}
use Rattle.std.specs.Prelude.{if◌then◌else◌}
use Rattle.memory_map.specs.Ram.{InRam, in_ram}
use Rattle.memory_map.proofs.RamLaws.{in_ram-InRam}
use Rattle.rv_decode.specs.Listing.{instruction}
use Rattle.rv_memory.specs.Ram.{loaded}
use Rattle.hart_model.specs.Fetch.{Fetched, Found, Outside, fetched}

-- the word stands in RAM, is four bytes long, and was read by the listing
pub record IsFetched (ram : List ℕ) (pc : ℕ) (f : Fetched) : Type 0 where
  pub within : InRam (length ram) pc 4
  pub sized : f.size ≡ 4
  pub read : f.instr ≡ instruction f.word

pub found_is : (ram : List ℕ) (pc : ℕ) (f : Fetched) → fetched ram pc ≡ Found f → IsFetched ram pc f
found_is ram pc f is = by_test (in_ram (length ram) pc 4) refl is
  where
    by_test : (test : Bool) → in_ram (length ram) pc 4 ≡ test → (if test then Found (record { word = loaded ram pc 4; size = 4; instr = instruction (loaded ram pc 4) }) else Outside pc) ≡ Found f → IsFetched ram pc f
    by_test true held found =
        let same : record { word = loaded ram pc 4; size = 4; instr = instruction (loaded ram pc 4) } ≡ f = cc in
        subst (IsFetched ram pc) same (record { within = in_ram-InRam _ _ _ held; sized = refl; read = refl })
    by_test false out found = cc
