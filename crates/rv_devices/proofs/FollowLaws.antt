-- A schedule that goes on.
use Rattle.std.proofs.Common.{◌≡◌, ℕ, ◌≤◌, Bool, true, false, List, length, Option, Some, None, inl, inr, refl, sym, subst, arith}
use Rattle.std.proofs.lemmas.Bool.{cases_lt}
use Rattle.std.specs.Prelude.{if◌then◌else◌, nat_lt}
use Rattle.std.specs.Option.{option_map}
use Rattle.run_events.specs.declared.supply.Supplied.{Supplied}
use Rattle.machine_model.specs.Script.{Entry}
use Rattle.machine_model.specs.Board.{Arrival, given}
use Rattle.rv_devices.specs.declared.schedule.Schedule.{Schedule}
use Rattle.rv_devices.specs.Entries.{arrivals_at}
use Rattle.rv_devices.specs.Follows.{Follows, next_byte}

-- the entries are its own
pub own : (entries : List Entry) (begun taken : ℕ) (s : Schedule) → Follows entries begun taken s → Follows s.entries.items begun taken s
own entries begun taken s f = subst (λ l. Follows l begun taken s) (sym f.entries_are) f

-- no more bytes of an entry were taken than it has
pub taken_within : (entries : List Entry) (begun taken : ℕ) (s : Schedule) → Follows entries begun taken s → s.taken ≤ length (arrivals_at s.source entries)
taken_within entries begun taken s f =
    elim (cases_lt s.source s.place) [ inl below ↦ omega (arith, f.clear below) | inr past ↦ omega (arith, f.fresh past) ]

-- a byte waits where one is given
waits_by : (b : Bool) (o : Option Arrival) (byte : Supplied) → Some byte ≡ option_map given (if b then o else None) → b ≡ true
waits_by true o byte is = refl
waits_by false o byte is = cc

pub waits_true : (s : Schedule) (byte : Supplied) → Some byte ≡ option_map given (next_byte s) → nat_lt s.source s.place ≡ true
waits_true s byte is = waits_by (nat_lt s.source s.place) _ byte is
