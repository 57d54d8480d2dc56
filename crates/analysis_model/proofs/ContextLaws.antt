-- The context, as events come.
use Rattle.std.proofs.Common.{◌≡◌, ℕ, ◌≤◌, nat_le, cond, List, [], ◌∷◌, ◌++◌, reverse, unwrap_or, Option, Some, None, ap, arith}
use Rattle.std.proofs.lemmas.Bool.Decides.{nat_tests}
use Rattle.list_laws.proofs.ReverseLaws.{reverse-last}
use Rattle.run_events.specs.declared.announcement.Announcement.{Announcement}
use Rattle.run_events.specs.declared.announcement.Announcement.TheVariants.{Allocate, Free, Acquire, Release, Enter, Check, Guard}
use Rattle.run_events.specs.declared.event.Event.{Event}
use Rattle.run_events.specs.Announcement.{announced}
use Rattle.analysis_model.specs.Context.{entered, context_after}

-- one event more
pub context-more : (h : List Event) (event : Event) → context_after (reverse (h ++ event ∷ [])) ≡ unwrap_or (entered (announced event)) (context_after (reverse h))
context-more h event = ap context_after (reverse-last h event)

-- contexts are numbered from 0 to 63
enter_small : (context other : ℕ) → other ≤ 63 → unwrap_or (cond (nat_le context 63) (Some context) None) other ≤ 63
enter_small context other small = grind (arith, nat_tests)

entered_small : (told : Option Announcement) (other : ℕ) → other ≤ 63 → unwrap_or (entered told) other ≤ 63
entered_small None other small = small
entered_small (Some (Allocate start size)) other small = small
entered_small (Some (Free start size)) other small = small
entered_small (Some (Acquire lock)) other small = small
entered_small (Some (Release lock)) other small = small
entered_small (Some (Enter context)) other small = enter_small context other small
entered_small (Some (Check start size)) other small = small
entered_small (Some (Guard start size lock)) other small = small

pub context_small : (before : List Event) → context_after before ≤ 63
context_small [] = omega arith
context_small (last ∷ before) = entered_small (announced last) (context_after before) (context_small before)
