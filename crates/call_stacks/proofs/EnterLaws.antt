-- Which context an announcement enters.
use Rattle.std.proofs.Common.{◌≡◌, ℕ, arith}
use Rattle.std.proofs.lemmas.Bool.Decides.{nat_tests}
use Rattle.run_events.specs.Announcement.{announced_by}
use Rattle.analysis_model.specs.Context.{entered}

-- by its first argument alone
pub entered_by_first : (word a0 a1 a2 b1 b2 : ℕ) → entered (announced_by word (record { a0 = a0; a1 = a1; a2 = a2 })) ≡ entered (announced_by word (record { a0 = a0; a1 = b1; a2 = b2 }))
unfolding announced_by
entered_by_first word a0 a1 a2 b1 b2 = grind (arith, nat_tests)
