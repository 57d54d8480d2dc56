-- A toy machine with a board, on which the definitions are computed: its orders load a device register, look at the
-- interrupt lines, send a byte, and power off; a word of the disk changes what it holds.
use Rattle.std.specs.Prelude.{ℕ, ◌+◌, true, ◌==◌, List, [], ◌∷◌, Option, None, Some, if◌then◌else◌}
use Rattle.std.proofs.Common.{suc}
use Rattle.memory_map.specs.declared.TheConstants.{RAM_START, SERIAL_DATA, POWER}
use Rattle.run_events.specs.declared.access.Access.{Access}
use Rattle.run_events.specs.declared.access.Access.TheVariants as access
use Rattle.run_events.specs.declared.event.Event.{Event}
use Rattle.run_events.specs.declared.event.Event.TheVariants.{Dma, Exec}
use Rattle.run_events.specs.declared.supply.Need.{Need}
use Rattle.run_events.specs.declared.supply.Need.TheVariants.{Load, Nothing}
use Rattle.run_events.specs.declared.supply.Supplied.{Supplied}
use Rattle.any_machine.specs.Machine.{Machine, Board}

-- what it may be told to do
pub data Order : Type 0 where
  Idle : Order
  Take : Order
  Look : Order
  Send : Order
  Stop : Order

pub record Toy : Type 0 where
  pub orders : List Order
  pub holding : ℕ
  pub step : ℕ

abbrev pub next_order : List Order → Order
next_order [] = Idle
next_order (order ∷ orders) = order

abbrev pub other_orders : List Order → List Order
other_orders [] = []
other_orders (order ∷ orders) = orders

abbrev pub need_for : Order → Need
need_for Take = Load SERIAL_DATA 4
need_for Idle = Nothing
need_for Look = Nothing
need_for Send = Nothing
need_for Stop = Nothing

abbrev pub value_of : Option Supplied → ℕ
value_of None = 0
value_of (Some supplied) = supplied.value

abbrev pub holding_after : Order → ℕ → Option Supplied → ℕ → ℕ
holding_after Idle lines supplied holding = holding
holding_after Take lines supplied holding = value_of supplied
holding_after Look lines supplied holding = lines
holding_after Send lines supplied holding = holding
holding_after Stop lines supplied holding = holding

abbrev pub access_for : Order → ℕ → Access
access_for Idle holding = access.Quiet
access_for Take holding = access.Quiet
access_for Look holding = access.Quiet
access_for Send holding = access.Store SERIAL_DATA 4 holding true
access_for Stop holding = access.Store POWER 4 holding true

-- the event of a step, which tells what is held after it
abbrev pub event_for : ℕ → ℕ → Access → Event
event_for step result access' = Exec step RAM_START 0 RAM_START result access' (record { a0 = 0; a1 = 0; a2 = 0 })

unfoldable pub toy : Machine Toy
toy = record {
  needs = λ s lines. need_for (next_order s.orders);
  step = λ s lines supplied.
      let order = next_order s.orders in
      let holding = holding_after order lines supplied s.holding in
      (event_for s.step holding (access_for order s.holding), record { orders = other_orders s.orders; holding = holding; step = suc s.step });
  touch = λ s word. (Dma s.step word.address word.word word.mark, record s { holding = word.word });
  holds = λ s address. address == RAM_START;
}

-- a board that writes a word before step 1, raises a line at steps 3 and 4, and gives A, B, C, and so on
unfoldable pub toy_board : Board Toy ℕ
toy_board = record {
  due = λ n b. (if n == 1 then record { address = RAM_START; word = 72; mark = 0 } ∷ [] else [], b);
  lines = λ n b. if n == 3 then 2 else if n == 4 then 2 else 0;
  load = λ n b address. (record { value = 65 + b; mark = 1 }, suc b);
  stored = λ n b event s. b;
}

-- it takes A, which the word H replaces, sends that, looks at the lines, sends them, and powers off with their number
abbrev pub guest : Toy
guest = record { orders = Take ∷ Idle ∷ Send ∷ Look ∷ Send ∷ Stop ∷ []; holding = 0; step = 0 }
