-- What announces nothing, and what an announcement leaves alone.
use Rattle.std.proofs.Common.{◌≡◌, ◌≢◌, ℕ, ◌%◌, ◌^◌, ◌==◌, false, None, refl, arith}
use Rattle.std.proofs.lemmas.Bool.Decides.{nat_tests}
use Rattle.run_events.specs.declared.access.Told.{Told}
use Rattle.run_events.specs.Announcement.{announcing, announced_by}

-- another word than slti x0, x0, k announces nothing
other : (k word : ℕ) → word % 2 ^ 20 ≢ 8211 → (word == announcing k) ≡ false
other k word apart = grind (arith, nat_tests)

pub announced_by_none : (word : ℕ) (told : Told) → word % 2 ^ 20 ≢ 8211 → announced_by word told ≡ None
unfolding announced_by
announced_by_none word told apart =
    rw (other 1 word apart, other 2 word apart, other 3 word apart, other 4 word apart, other 5 word apart, other 6 word apart, other 7 word apart) refl
