-- What a guest announces.
use Rattle.std.specs.Prelude.{ℕ, ◌+◌, ◌*◌, ◌%◌, ◌^◌, ◌==◌, Bool, Option, None, Some, if◌then◌else◌}
use Rattle.run_events.specs.declared.access.Told.{Told}
use Rattle.run_events.specs.declared.announcement.Announcement.{Announcement}
use Rattle.run_events.specs.declared.announcement.Announcement.TheVariants.{Allocate, Free, Acquire, Release, Enter, Check, Guard}
use Rattle.run_events.specs.declared.event.Event.{Event}
use Rattle.run_events.specs.declared.event.Event.TheVariants.{Dma, Irq, Trap, Exec}

-- the word of slti x0, x0, 0; in that of slti x0, x0, k the number k stands above these 20 bits
abbrev pub idle_compare : ℕ
idle_compare = 0x2013

-- the word is slti x0, x0, k for some k
abbrev pub is_idle_compare : ℕ → Bool
is_idle_compare word = word % 2 ^ 20 == idle_compare

-- the word of slti x0, x0, k
abbrev pub announcing : ℕ → ℕ
announcing k = k * 2 ^ 20 + idle_compare

-- what an instruction announces, with its arguments in a0, a1 and a2
unfoldable pub announced_by : ℕ → Told → Option Announcement
announced_by word told =
    if word == announcing 1 then Some (Allocate told.a0 told.a1)
    else if word == announcing 2 then Some (Free told.a0 told.a1)
    else if word == announcing 3 then Some (Acquire told.a0)
    else if word == announcing 4 then Some (Release told.a0)
    else if word == announcing 5 then Some (Enter told.a0)
    else if word == announcing 6 then Some (Check told.a0 told.a1)
    else if word == announcing 7 then Some (Guard told.a0 told.a1 told.a2)
    else None

-- what an event announces: executed instructions alone do
abbrev pub announced : Event → Option Announcement
announced (Dma step address word mark) = None
announced (Irq step pc cause next) = None
announced (Trap step pc word cause value next) = None
announced (Exec step pc word next result access told) = announced_by word told
