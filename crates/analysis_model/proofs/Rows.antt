-- The analyses, computed on short runs. What they give was worked out by hand from the rules and the manual.
use Rattle.std.proofs.Common.{◌≡◌, ℕ, ◌+◌, ◌*◌, false, true, List, [], ◌∷◌, refl}
use Rattle.list_laws.specs.Least.{least_from}
use Rattle.run_events.specs.declared.access.Access.{Access}
use Rattle.run_events.specs.declared.access.Access.TheVariants.{Quiet, Load, Store}
use Rattle.run_events.specs.declared.access.Told.{Told}
use Rattle.run_events.specs.declared.event.Event.{Event}
use Rattle.run_events.specs.declared.event.Event.TheVariants.{Exec}
use Rattle.run_events.specs.declared.finding.Finding.{Finding}
use Rattle.run_events.specs.declared.finding.FindingKind.{FindingKind}
use Rattle.run_events.specs.declared.finding.FindingKind.TheVariants as finding
use Rattle.run_events.specs.declared.finding.Kind.TheVariants as kind
use Rattle.run_events.specs.Announcement.{announcing, announced_by}
use Rattle.rv_decode.specs.Listing.{rows, instruction}
use Rattle.analysis_model.specs.Calls.{unmatched_count}
use Rattle.analysis_model.specs.Complaints.{Guest, findings}

-- a RAM of 64 KiB, four frames a context, and two locks that count
small : Guest
small = record { code = []; ram_kib = 64; frames = 4; locks = 2 }

told : ℕ → ℕ → ℕ → Told
told a0 a1 a2 = record { a0 = a0; a1 = a1; a2 = a2 }

-- the instruction of a step whose pc is four times its number after the start of RAM
step : ℕ → ℕ → Access → Told → Event
step n word access arguments = Exec n (0x80000000 + 4 * n) word (0x80000000 + 4 * n + 4) 0 access arguments

plain : ℕ → ℕ → Event
plain n word = step n word Quiet (told 0 0 0)

announce : ℕ → ℕ → Told → Event
announce n k arguments = step n (announcing k) Quiet arguments

at : ℕ → FindingKind → ℕ → Finding
at n kind address = record { step = n; pc = 0x80000000 + 4 * n; kind = kind; address = address }

-- locks: a range of one byte of a device, which lock 9 guards, and two stores to it
guarded : List Event
guarded =
    step 4 0x00550023 (Store 0x10000000 1 0x41 true) (told 0 0 0)
    ∷ announce 5 7 (told 0x10000000 1 9)
    ∷ step 6 0x00550023 (Store 0x10000000 1 0x41 true) (told 0 0 0)
    ∷ step 7 0x00550023 (Store 0x10000000 1 0x41 true) (told 0 0 0)
    ∷ []

guarded_findings : findings kind.Locks small guarded ≡ at 6 finding.Unguarded 0x10000000 ∷ at 7 finding.Unguarded 0x10000000 ∷ []
unfolding small told step announce at guarded announced_by least_from
guarded_findings = refl

-- with the lock there is none, until it is released, and a second acquire and a second release are complained of
held : List Event
held =
    announce 0 7 (told 0x80000100 4 9)
    ∷ announce 1 3 (told 9 0 0)
    ∷ step 2 0x00550023 (Store 0x80000103 1 0x41 false) (told 0 0 0)
    ∷ announce 3 3 (told 9 0 0)
    ∷ announce 4 5 (told 1 0 0)
    ∷ step 5 0x00550023 (Store 0x800000FF 1 0x41 false) (told 0 0 0)
    ∷ step 6 0x00550023 (Store 0x800000FE 4 0x41 false) (told 0 0 0)
    ∷ announce 7 4 (told 9 0 0)
    ∷ announce 8 4 (told 7 0 0)
    ∷ announce 9 4 (told 6 0 0)
    ∷ []

held_findings : findings kind.Locks small held ≡ at 3 finding.Reacquire 9 ∷ at 6 finding.Unguarded 0x80000100 ∷ at 7 finding.BadRelease 9 ∷ at 8 finding.BadRelease 7 ∷ []
unfolding small told step announce at held announced_by least_from
held_findings = refl

-- the heap: a block of eight bytes, its redzones, and its end
byte_load : ℕ → ℕ → Event
byte_load n address = step n 0x00052283 (Load address 1 0 false 0) (told 0 0 0)

blocks : List Event
blocks =
    announce 0 1 (told 0x80001000 8 0)
    ∷ byte_load 1 0x80000fef
    ∷ byte_load 2 0x80000ff0
    ∷ byte_load 3 0x80001007
    ∷ byte_load 4 0x80001008
    ∷ byte_load 5 0x80001017
    ∷ byte_load 6 0x80001018
    ∷ announce 7 2 (told 0x80001000 8 0)
    ∷ byte_load 8 0x80001000
    ∷ announce 9 2 (told 0x80001000 8 0)
    ∷ announce 10 2 (told 0x80001000 0 0)
    ∷ []

block_findings : findings kind.Heap small blocks
    ≡ at 2 finding.Red 0x80000ff0 ∷ at 4 finding.Red 0x80001008 ∷ at 5 finding.Red 0x80001017 ∷ at 8 finding.Freed 0x80001000 ∷ at 9 finding.BadFree 0x80001000 ∷ []
unfolding small told step announce at byte_load blocks announced_by least_from
block_findings = refl

-- marked input: a byte of a device goes through mscratch and arithmetic into a jump
marked_jump : ℕ → List Event
marked_jump word =
    plain 0 0x100002B7
    ∷ step 1 0x0002C303 (Load 0x10000000 1 0x61 true 1) (told 0 0 0)
    ∷ plain 2 0x34031073
    ∷ plain 3 0x340023F3
    ∷ plain 4 word
    ∷ plain 5 0x00000E17
    ∷ plain 6 0x01C383B3
    ∷ Exec 7 0x8000001C 0x01038067 0x80000024 0 Quiet (told 0 0 0)
    ∷ []

-- ADDI x7, x7, -97 keeps the mark, and XOR x7, x7, x7 ends it
jump_findings : findings kind.Taint small (marked_jump 0xF9F38393) ≡ at 7 finding.Jump 0x80000024 ∷ []
unfolding small told step plain at marked_jump announced_by least_from instruction rows
jump_findings = refl

no_jump_findings : findings kind.Taint small (marked_jump 0x0073C3B3) ≡ []
unfolding small told step plain at marked_jump announced_by least_from instruction rows
no_jump_findings = refl

-- calls: JAL x1, 0 pushes, and JALR x0, 0(x1) pops
push : ℕ → Event
push n = plain n 0x000000EF

pop : ℕ → ℕ → Event
pop n to = Exec n (0x80000000 + 4 * n) 0x00008067 (0x80000000 + 4 * to + 4) 0 Quiet (told 0 0 0)

-- of five calls the first has no frame any more
five_deep : List Event
five_deep = push 0 ∷ push 1 ∷ push 2 ∷ push 3 ∷ push 4 ∷ pop 5 4 ∷ pop 6 3 ∷ pop 7 2 ∷ pop 8 1 ∷ pop 9 0 ∷ []

five_findings : findings kind.Calls small five_deep ≡ []
unfolding small told step plain at push pop five_deep announced_by instruction rows
five_findings = refl

five_unmatched : unmatched_count 4 five_deep ≡ 1
unfolding told step plain push pop five_deep announced_by instruction rows
five_unmatched = refl

four_deep : List Event
four_deep = push 1 ∷ push 2 ∷ push 3 ∷ push 4 ∷ pop 5 4 ∷ pop 6 3 ∷ pop 7 2 ∷ pop 8 1 ∷ []

four_unmatched : unmatched_count 4 four_deep ≡ 0
unfolding told step plain push pop four_deep announced_by instruction rows
four_unmatched = refl

first_unmatched : unmatched_count 4 (pop 0 7 ∷ []) ≡ 1
unfolding told step plain pop announced_by instruction rows
first_unmatched = refl

-- a return to another address
astray_findings : findings kind.Calls small (push 0 ∷ pop 1 5 ∷ []) ≡ at 1 finding.Return 0x80000004 ∷ []
unfolding small told step plain at push pop announced_by instruction rows
astray_findings = refl
