-- What a board gives a machine is what a step may take: at most 128 words, each an aligned word in RAM; lines and marks
-- that are in range.
use Rattle.std.proofs.Common.{◌≡◌, ℕ, zero, suc, ◌+◌, ◌*◌, ◌%◌, ◌≤◌, Bool, true, false, List, [], ◌∷◌, ◌++◌, length, map, Option, Some, None, slice_get, refl, ap, arith}
use Rattle.std.specs.Prelude.{◌||◌, ◌==◌, is_some, nat_le, if◌then◌else◌}
use Rattle.std.specs.Option.{option_and_then, option_map_or}
use Rattle.std.specs.List.{AllByRecursion, flat_map, list_any}
use Rattle.memory_map.specs.Device.{is_device}
use Rattle.memory_map.specs.Ram.{InRam}
use Rattle.run_events.specs.Record.{IsMark}
use Rattle.run_events.specs.declared.supply.DmaWord.{DmaWord}
use Rattle.machine_model.specs.Script.{Script, Entry, What, Serial, Tick, Latency}
use Rattle.machine_model.specs.Board

-- so many words
length-words_of : (left : ℕ) (bytes : List ℕ) (address mark : ℕ) → length (Board.words_of left bytes address mark) ≡ left
unfolding Board.words_of
length-words_of zero bytes address mark = refl
length-words_of (suc left) bytes address mark = ap suc (length-words_of left _ (address + 4) mark)

words_fit : (size left : ℕ) (bytes : List ℕ) (address mark : ℕ) → address % 4 ≡ 0 → InRam size address (4 * left) → IsMark mark → AllByRecursion (Board.IsDiskWord size) (Board.words_of left bytes address mark)
unfolding Board.words_of
words_fit size zero bytes address mark aligned within marked = tt
words_fit size (suc left) bytes address mark aligned within marked = (
  record { aligned = aligned; within = record { from = within.from; to = omega (arith, within.to) }; marked = marked },
  words_fit size left _ (address + 4) mark (omega (arith, aligned)) (record { from = omega (arith, within.from); to = omega (arith, within.to) }) marked,
)

flag_fits : (flag : Bool) → IsMark (if flag then 1 else 0)
flag_fits true = omega arith
flag_fits false = omega arith

-- the words before a step
abbrev FewWords : ℕ → List DmaWord → Type 0
FewWords size words = (length words ≤ 128) × AllByRecursion (Board.IsDiskWord size) words

few_if : (size : ℕ) (due : Bool) (words : List DmaWord) (a b : Board.Activity) → FewWords size words → FewWords size (let p : List DmaWord × Board.Activity = (if due then (words, a) else ([], b)) in p.0)
few_if size true words a b few = few
few_if size false words a b few = (omega arith, tt)

few_by : (size step : ℕ) (a : Board.Activity) → Board.IsUnderWay size a → FewWords size (Board.completed step a).0
few_by size step Board.Idle way = (omega arith, tt)
few_by size step (Board.Busy command) way = few_if size (nat_le command.before step) command.words Board.Done (Board.Busy command) way
few_by size step Board.Done way = (omega arith, tt)
few_by size step Board.Refused way = (omega arith, tt)

pub words_are_few : (size step : ℕ) (b : Board.BoardState) → Board.IsUnderWay size b.activity → length (Board.words_before step b) ≤ 128
words_are_few size step b way = (few_by size step b.activity way).0

pub words_are_held : (size step : ℕ) (b : Board.BoardState) → Board.IsUnderWay size b.activity → AllByRecursion (Board.IsDiskWord size) (Board.words_before step b)
words_are_held size step b way = (few_by size step b.activity way).1

-- the lines are in range
lines_in_range : (timer external : Bool) → (if timer then 1 else 0) + (if external then 2 else 0) ≤ 3
lines_in_range true true = omega arith
lines_in_range true false = omega arith
lines_in_range false true = omega arith
lines_in_range false false = omega arith

pub lines_fit : (script : Script) (step : ℕ) (b : Board.BoardState) → Board.board_lines script step b ≤ 3
lines_fit script step b = lines_in_range (Board.timer_line script step b) (Board.external_line script step b)

-- the marks of the serial bytes
MarksFit : List Board.Arrival → Type 0
MarksFit bytes = AllByRecursion (λ (byte : Board.Arrival). IsMark byte.mark) bytes

marks_join : (xs ys : List Board.Arrival) → MarksFit xs → MarksFit ys → MarksFit (xs ++ ys)
unfolding MarksFit
marks_join [] ys fit more = more
marks_join (x ∷ xs) ys fit more = (fit.0, marks_join xs ys fit.1 more)

bytes_fit : (at mark : ℕ) (bytes : List ℕ) → IsMark mark → MarksFit (Board.arrivals_by at (Serial bytes mark))
unfolding MarksFit
bytes_fit at mark [] marked = tt
bytes_fit at mark (byte ∷ bytes) marked = (marked, bytes_fit at mark bytes marked)

arrivals_fit : (at : ℕ) (what : What) → Board.IsMarkedBy what → MarksFit (Board.arrivals_by at what)
unfolding MarksFit
arrivals_fit at (Serial bytes mark) marked = bytes_fit at mark bytes marked
arrivals_fit at (Tick count) marked = tt
arrivals_fit at (Latency steps) marked = tt

all_fit : (entries : List Entry) → Board.AreMarked entries → MarksFit (flat_map Board.arrivals_of entries)
unfolding MarksFit
all_fit [] marked = tt
all_fit (entry ∷ entries) marked = marks_join (Board.arrivals_of entry) (flat_map Board.arrivals_of entries) (arrivals_fit entry.at entry.what marked.0) (all_fit entries marked.1)

given_if : (present : Bool) (byte : Board.Arrival) → IsMark byte.mark → IsMark (Board.byte_given (if present then Some byte else None)).mark
given_if true byte marked = marked
given_if false byte marked = omega arith

given_fits : (step k : ℕ) (bytes : List Board.Arrival) → MarksFit bytes → IsMark (Board.byte_given (option_and_then (Board.present_at step) (slice_get bytes k))).mark
unfolding MarksFit
given_fits step k [] fit = omega arith
given_fits step zero (byte ∷ bytes) fit = given_if (nat_le byte.at step) byte fit.0
given_fits step (suc k) (byte ∷ bytes) fit = given_fits step k bytes fit.1

given_by_fits : (script : Script) (step : ℕ) (b : Board.BoardState) (register : Board.Register) → Board.AreMarked script.entries → IsMark (Board.given_by script step b register).mark
given_by_fits script step b Board.SerialData marked = given_fits step b.taken (Board.arrivals script) (all_fit script.entries marked)
given_by_fits script step b Board.CompareLow marked = omega arith
given_by_fits script step b Board.CompareHigh marked = omega arith
given_by_fits script step b Board.TimeLow marked = omega arith
given_by_fits script step b Board.TimeHigh marked = omega arith
given_by_fits script step b Board.SerialStatus marked = omega arith
given_by_fits script step b Board.SerialControl marked = omega arith
given_by_fits script step b Board.DiskSector marked = omega arith
given_by_fits script step b Board.DiskAddress marked = omega arith
given_by_fits script step b Board.DiskCommand marked = omega arith
given_by_fits script step b Board.DiskStatus marked = omega arith
given_by_fits script step b Board.DiskControl marked = omega arith
given_by_fits script step b Board.DiskCount marked = omega arith
given_by_fits script step b Board.Power marked = omega arith

given_option_fits : (script : Script) (step : ℕ) (b : Board.BoardState) (register : Option Board.Register) → Board.AreMarked script.entries → IsMark (option_map_or (Board.given_by script step b) register (Board.unmarked 0)).mark
given_option_fits script step b None marked = omega arith
given_option_fits script step b (Some register) marked = given_by_fits script step b register marked

pub mark_fits : (script : Script) (step : ℕ) (b : Board.BoardState) (address : ℕ) → Board.AreMarked script.entries → IsMark (Board.given_at script step b address).mark
mark_fits script step b address marked = given_option_fits script step b (Board.register_at address) marked

-- a command stays under way
stays_if : (size : ℕ) (due : Bool) (words : List DmaWord) (command : Board.Command) → Board.IsUnderWay size (Board.Busy command) → Board.IsUnderWay size (let p : List DmaWord × Board.Activity = (if due then (words, Board.Done) else ([], Board.Busy command)) in p.1)
stays_if size true words command way = tt
stays_if size false words command way = way

stays_by : (size step : ℕ) (a : Board.Activity) → Board.IsUnderWay size a → Board.IsUnderWay size (Board.completed step a).1
stays_by size step Board.Idle way = tt
stays_by size step (Board.Busy command) way = stays_if size (nat_le command.before step) command.words command way
stays_by size step Board.Done way = tt
stays_by size step Board.Refused way = tt

pub way_at_step : (size step : ℕ) (b : Board.BoardState) → Board.IsUnderWay size b.activity → Board.IsUnderWay size (Board.at_step step b).activity
way_at_step size step b way = stays_by size step b.activity way

load_if : (size : ℕ) (takes : Bool) (b : Board.BoardState) → Board.IsUnderWay size b.activity → Board.IsUnderWay size (let c : Board.BoardState = (if takes then record b { taken = b.taken + 1 } else b) in c.activity)
load_if size true b way = way
load_if size false b way = way

pub way_after_load : (size : ℕ) (script : Script) (step : ℕ) (b : Board.BoardState) (address : ℕ) → Board.IsUnderWay size b.activity → Board.IsUnderWay size (Board.after_load script step b address).activity
way_after_load size script step b address way = load_if size _ b way

acknowledged_way : (size : ℕ) (a : Board.Activity) → Board.IsUnderWay size a → Board.IsUnderWay size (Board.acknowledged a)
acknowledged_way size Board.Idle way = tt
acknowledged_way size (Board.Busy command) way = way
acknowledged_way size Board.Done way = tt
acknowledged_way size Board.Refused way = tt

-- an accepted command's bytes are aligned words in RAM
accepted_place : (size count command sector address : ℕ) → Board.is_accepted size count command sector address ≡ true → (address % 4 ≡ 0) × InRam size address (4 * 128)
accepted_place size count command sector address is =
    let aligned : address % 4 ≡ 0 = grind (arith, is) in
    let from : 2147483648 ≤ address = grind (arith, is) in
    let to : address + 512 ≤ 2147483648 + size = grind (arith, is) in
    (aligned, record { from = from; to = omega (arith, to) })

begun_way : (size : ℕ) (script : Script) (step : ℕ) (b : Board.BoardState) → (b.address % 4 ≡ 0) × InRam size b.address (4 * 128) → Board.IsUnderWay size (Board.busy_until (step + Board.latency script step) (Board.sector_words script b))
begun_way size script step b place =
    let marked : IsMark (Board.mark_of script b.sector) = flag_fits _ in
    (omega (arith, length-words_of 128 (Board.sector_bytes b) b.address (Board.mark_of script b.sector)), words_fit size 128 (Board.sector_bytes b) b.address (Board.mark_of script b.sector) place.0 place.1 marked)

command_way : (size : ℕ) (busy accepted reads : Bool) (same read write refused : Board.BoardState) → (busy ≡ true → Board.IsUnderWay size same.activity) → (accepted ≡ true → Board.IsUnderWay size read.activity) → Board.IsUnderWay size write.activity → Board.IsUnderWay size refused.activity → Board.IsUnderWay size (let c : Board.BoardState = (if busy then same else (if accepted then (if reads then read else write) else refused)) in c.activity)
command_way size true accepted reads same read write refused a b c d = a refl
command_way size false true true same read write refused a b c d = b refl
command_way size false true false same read write refused a b c d = c
command_way size false false reads same read write refused a b c d = d

stored_way : (script : Script) (step : ℕ) (ram : List ℕ) (value : ℕ) (b : Board.BoardState) (register : Board.Register) → Board.IsUnderWay (length ram) b.activity → Board.IsUnderWay (length ram) (Board.stored_by script step ram value b register).activity
stored_way script step ram value b Board.DiskCommand way =
    command_way (length ram) (Board.is_busy b.activity) (Board.is_accepted (length ram) (Board.sector_count b.bytes) value b.sector b.address) _ b
    (record b { activity = Board.busy_until (step + Board.latency script step) (Board.sector_words script b) })
    (record b { activity = Board.busy_until (step + Board.latency script step) []; bytes = Board.with_sector ram b })
    (record b { activity = Board.Refused })
    (λ _. way) (λ is. begun_way (length ram) script step b (accepted_place (length ram) (Board.sector_count b.bytes) value b.sector b.address is)) (omega arith, tt) tt
stored_way script step ram value b Board.DiskStatus way = acknowledged_way (length ram) b.activity way
stored_way script step ram value b Board.CompareLow way = way
stored_way script step ram value b Board.CompareHigh way = way
stored_way script step ram value b Board.TimeLow way = way
stored_way script step ram value b Board.TimeHigh way = way
stored_way script step ram value b Board.SerialData way = way
stored_way script step ram value b Board.SerialStatus way = way
stored_way script step ram value b Board.SerialControl way = way
stored_way script step ram value b Board.DiskSector way = way
stored_way script step ram value b Board.DiskAddress way = way
stored_way script step ram value b Board.DiskControl way = way
stored_way script step ram value b Board.DiskCount way = way
stored_way script step ram value b Board.Power way = way

stored_option_way : (script : Script) (step : ℕ) (ram : List ℕ) (value : ℕ) (b : Board.BoardState) (register : Option Board.Register) → Board.IsUnderWay (length ram) b.activity → Board.IsUnderWay (length ram) (option_map_or (Board.stored_by script step ram value b) register b).activity
stored_option_way script step ram value b None way = way
stored_option_way script step ram value b (Some register) way = stored_way script step ram value b register way

pub way_after_store : (script : Script) (step : ℕ) (ram : List ℕ) (b : Board.BoardState) (address value : ℕ) → Board.IsUnderWay (length ram) b.activity → Board.IsUnderWay (length ram) (Board.after_store script step ram b address value).activity
way_after_store script step ram b address value way = stored_option_way script step ram value b (Board.register_at address) way

-- the registers are where devices are accessed
some_or : (here : Bool) (register : Board.Register) (others : Option Board.Register) (any : Bool) → any ≡ is_some others → (here || any) ≡ is_some (if here then Some register else others)
some_or true register others any is = refl
some_or false register others any is = is

found_any : (address : ℕ) (places : List (ℕ × Board.Register)) → list_any (λ (place : ℕ). address == place) (map (λ (p : ℕ × Board.Register). p.0) places) ≡ is_some (Board.found_at address places)
found_any address [] = refl
found_any address ((place, register) ∷ others) = some_or (address == place) register (Board.found_at address others) _ (found_any address others)

pub is_device_register : (address : ℕ) → is_device address ≡ is_some (Board.register_at address)
unfolding is_device
is_device_register address = found_any address Board.registers
