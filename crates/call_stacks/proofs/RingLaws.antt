-- A ring of frames, with one move more.
use Rattle.std.proofs.Common.{◌≡◌, ℕ, zero, suc, ◌+◌, ◌<◌, nat_lt, true, false, List, [], ◌∷◌, take, drop, slice_get, refl, sym, ◌∙◌, arith, inl, inr, length-take, length-drop}
use Rattle.std.proofs.lemmas.Bool.{cases_lt}
use Rattle.std.proofs.lemmas.Bool.Decides.{nat_tests}
use Rattle.std.proofs.lemmas.Option.{slice_get_past}
use Rattle.circular_buffer.specs.Buffer.{Buffer, buffer}
use Rattle.circular_buffer.proofs.Places.{slice_get-take, slice_get-drop}
use Rattle.analysis_model.specs.Calls.{Move, Push, Pop, answered}
use Rattle.call_stacks.specs.Stacks.{Holds, pushed_on, popped_off}

-- no frame, before any move
pub Holds-none : (bound : ℕ) → Holds bound (buffer [] bound) []
Holds-none bound = record { room = refl; few = omega arith; answers = λ waiting h. refl }

-- a push is the answer to the next pop, and the others wait for one more
pub Holds-push : (bound : ℕ) (ring : Buffer ℕ) (moves : List Move) (link : ℕ) → Holds bound ring moves → Holds bound (pushed_on ring link) (Push link ∷ moves)
Holds-push bound ring moves link holds = record {
  room = holds.room;
  few = omega (arith, length-take ring.capacity (link ∷ ring.items), holds.room);
  answers = answers;
}
  where
    kept : (waiting : ℕ) → waiting < bound → slice_get (take ring.capacity (link ∷ ring.items)) waiting ≡ slice_get (link ∷ ring.items) waiting
    kept waiting h = slice_get-take ring.capacity (link ∷ ring.items) waiting (omega (arith, holds.room))

    answers : (waiting : ℕ) → waiting < bound → answered bound waiting (Push link ∷ moves) ≡ slice_get (take ring.capacity (link ∷ ring.items)) waiting
    answers zero h = sym (kept zero h)
    answers (suc waiting) h = holds.answers waiting (omega arith) ∙ sym (kept (suc waiting) h)

-- a pop takes the next answer away; where `bound` pops would wait there is none
pub Holds-pop : (bound : ℕ) (ring : Buffer ℕ) (moves : List Move) → Holds bound ring moves → Holds bound (popped_off ring) (Pop ∷ moves)
Holds-pop bound ring moves holds = record {
  room = holds.room;
  few = omega (arith, length-drop 1 ring.items, holds.few);
  answers = answers;
}
  where
    next : (waiting : ℕ) → slice_get (drop 1 ring.items) waiting ≡ slice_get ring.items (waiting + 1)
    next waiting = slice_get-drop 1 ring.items waiting (waiting + 1) (omega arith)

    answers : (waiting : ℕ) → waiting < bound → answered bound waiting (Pop ∷ moves) ≡ slice_get (drop 1 ring.items) waiting
    answers waiting h =
        elim (cases_lt (waiting + 1) bound) [
          | inl room ↦
              let test : nat_lt (waiting + 1) bound ≡ true = grind (arith, nat_tests) in
              rw test (holds.answers (waiting + 1) room ∙ sym (next waiting))
          | inr full ↦
              let test : nat_lt (waiting + 1) bound ≡ false = grind (arith, nat_tests) in
              rw test (sym (next waiting ∙ slice_get_past ring.items (waiting + 1) (omega (arith, holds.few))))
        ]
