-- What loads and stores make of a list of bytes.
use Rattle.std.proofs.Common.{◌≡◌, ◌⊎◌, ℕ, ◌+◌, ◌-◌, ◌^◌, ◌<◌, ◌≤◌, List, length, take, drop, get_or, ◌%◌, inl, inr, arith, length-append, length-drop, length-take}
use Rattle.std.proofs.lemmas.List.{get_or_past, get_or_append_left, get_or-take, get_or-drop}
use Rattle.std.proofs.Math.Seq.{get_or-append_right}
use Rattle.std.proofs.Math.Nat.{mod-lt}
use Rattle.std.proofs.lemmas.Bool.{cases_lt}
use Rattle.std.proofs.lemmas.List.Elements.{All-append, All-take, All-drop, All-get_or, All-from_recursion}
use Rattle.std.specs.List.{All}
use Rattle.std.specs.Int.{w32, to_le_bytes}
use Rattle.memory_map.specs.declared.TheConstants.{RAM_START}
use Rattle.memory_map.specs.Ram.{InRam, IsWidth}
use Rattle.rv_memory.specs.Ram.{placed, loaded, stored}

-- a piece that is placed inside keeps the length
pub length-placed : (bytes : List ℕ) (at : ℕ) (piece : List ℕ) → at + length piece ≤ length bytes → length (placed bytes at piece) ≡ length bytes
length-placed bytes at piece inside = grind (arith, length-append, length-take, length-drop)

-- the bytes before the piece stay
pub placed-before : (bytes : List ℕ) (at : ℕ) (piece : List ℕ) (i d : ℕ) → at ≤ length bytes → i < at → get_or (placed bytes at piece) i d ≡ get_or bytes i d
placed-before bytes at piece i d inside before = grind (arith, get_or_append_left, get_or-take, length-append, length-take)

-- the piece stands where it was placed
pub placed-inside : (bytes : List ℕ) (at : ℕ) (piece : List ℕ) (i d : ℕ) → at ≤ length bytes → i < length piece → get_or (placed bytes at piece) (at + i) d ≡ get_or piece i d
placed-inside bytes at piece i d inside within = grind (arith, get_or-append_right, get_or_append_left, length-append, length-take)

-- the bytes after the piece stay
pub placed-after : (bytes : List ℕ) (at : ℕ) (piece : List ℕ) (i d : ℕ) → at ≤ length bytes → at + length piece ≤ i → get_or (placed bytes at piece) i d ≡ get_or bytes i d
placed-after bytes at piece i d inside after = grind (arith, get_or-append_right, get_or-drop, length-append, length-take)

-- what holds of each old byte and of each new one holds afterwards
pub All-placed : (P : ℕ → Type 0) (bytes : List ℕ) (at : ℕ) (piece : List ℕ) → All P bytes → All P piece → All P (placed bytes at piece)
All-placed P bytes at piece old new = All-append P _ _ (All-append P _ _ (All-take P at bytes old) new) (All-drop P (at + length piece) bytes old)

-- a store puts as many bytes as its width says
pub length-low : (width value : ℕ) → IsWidth width → length (take width (to_le_bytes w32 value)) ≡ width
length-low width value w = grind (arith, length-take)

-- a store keeps the length
pub length-stored : (ram : List ℕ) (address width value : ℕ) → IsWidth width → InRam (length ram) address width → length (stored ram address width value) ≡ length ram
length-stored ram address width value w held =
    let low = length-low width value w in
    length-placed ram (address - RAM_START) (take width (to_le_bytes w32 value)) (omega (arith, held.from, held.to, low))

-- the bytes outside a store's range stay
pub stored-outside : (ram : List ℕ) (address width value : ℕ) (i d : ℕ) → IsWidth width → InRam (length ram) address width → (RAM_START + i < address) ⊎ (address + width ≤ RAM_START + i) → get_or (stored ram address width value) i d ≡ get_or ram i d
stored-outside ram address width value i d w held (inl before) =
    placed-before ram (address - RAM_START) (take width (to_le_bytes w32 value)) i d (omega (arith, held.from, held.to)) (omega (arith, before, held.from))
stored-outside ram address width value i d w held (inr after) =
    let low = length-low width value w in
    placed-after ram (address - RAM_START) (take width (to_le_bytes w32 value)) i d (omega (arith, held.from, held.to)) (omega (arith, after, held.from, low))

-- a byte of a list of bytes, and what is read past its end, is below 256
pub byte_below : (bytes : List ℕ) (i : ℕ) → All (λ b. b < 256) bytes → get_or bytes i 0 < 256
byte_below bytes i old =
    elim (cases_lt i (length bytes)) [ inl within ↦ All-get_or (λ b. b < 256) bytes i 0 within old | inr past ↦ omega (arith, get_or_past bytes i 0 past) ]

-- the bytes of a value are below 256
pub low_bytes : (value : ℕ) → All (λ b. b < 256) (to_le_bytes w32 value)
low_bytes value =
    let low : (n : ℕ) → n % 256 < 256 = λ n. mod-lt n (omega arith) in
    All-from_recursion (λ b. b < 256) (to_le_bytes w32 value) (low _, (low _, (low _, (low _, tt))))

-- after a store each byte is below 256 as before
pub stored_bytes : (ram : List ℕ) (address width value : ℕ) → All (λ b. b < 256) ram → All (λ b. b < 256) (stored ram address width value)
stored_bytes ram address width value old =
    All-placed (λ b. b < 256) ram (address - RAM_START) _ old (All-take (λ b. b < 256) width (to_le_bytes w32 value) (low_bytes value))

-- what is loaded is a number of 32 bits
pub loaded_fits : (ram : List ℕ) (address width : ℕ) → All (λ b. b < 256) ram → loaded ram address width < 2 ^ 32
loaded_fits ram address width old =
    let bytes = take width (drop (address - RAM_START) ram) in
    let each = λ (i : ℕ). byte_below bytes i (All-take (λ b. b < 256) width _ (All-drop (λ b. b < 256) (address - RAM_START) ram old)) in
    omega (arith, each 0, each 1, each 2, each 3)
