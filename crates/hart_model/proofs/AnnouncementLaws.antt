-- An announcement is an instruction that accesses no data.
use Rattle.std.proofs.Common.{◌≡◌, ℕ, zero, suc, ◌+◌, ◌*◌, ◌^◌, ◌≤◌, Option, Some, pos, refl, sym, subst, arith}
use Rattle.run_events.specs.Event.{Announces}
use Rattle.run_events.specs.declared.access.Access.TheVariants.{Quiet}
use Rattle.run_events.specs.declared.supply.Supplied.{Supplied}
use Rattle.rv_decode.specs.declared.instruction.Instr.{Instr}
use Rattle.rv_decode.specs.declared.instruction.Instr.TheVariants.{OpImm}
use Rattle.rv_decode.specs.declared.operations.ImmOp.TheVariants.{Slti}
use Rattle.rv_decode.specs.Listing.{instruction, rows}
use Rattle.hart_model.specs.Effect.{Outcome, Does, Raises}
use Rattle.hart_model.specs.State.{State}
use Rattle.hart_model.specs.Step.{outcome}

-- the outcome of a word, if the word announces something, accesses no data
abbrev pub IsQuietAnnouncement : ℕ → Outcome → Type 0
IsQuietAnnouncement word (Does e) = (k : ℕ) → Announces word k → e.access ≡ Quiet
IsQuietAnnouncement word (Raises cause value) = Unit {0}

-- each announcement is slti x0, x0, k
spelled : (k : ℕ) → 1 ≤ k → k ≤ 7 → instruction (k * 2 ^ 20 + 8211) ≡ Some (OpImm Slti 0 0 (pos k))
unfolding instruction rows
spelled zero least most = absurd (omega arith)
spelled (suc zero) least most = refl
spelled (suc (suc zero)) least most = refl
spelled (suc (suc (suc zero))) least most = refl
spelled (suc (suc (suc (suc zero)))) least most = refl
spelled (suc (suc (suc (suc (suc zero))))) least most = refl
spelled (suc (suc (suc (suc (suc (suc zero)))))) least most = refl
spelled (suc (suc (suc (suc (suc (suc (suc zero))))))) least most = refl
spelled (suc (suc (suc (suc (suc (suc (suc (suc k)))))))) least most = absurd (omega arith)

the_slti : (word k : ℕ) (i : Instr) → Announces word k → instruction word ≡ Some i → i ≡ OpImm Slti 0 0 (pos k)
the_slti word k i announces reads =
    let e : instruction word ≡ Some (OpImm Slti 0 0 (pos k)) = rw announces.spelled (spelled k announces.from announces.to) in cc

-- the outcome accesses no data
abbrev IsQuiet : Outcome → Type 0
IsQuiet (Does e) = e.access ≡ Quiet
IsQuiet (Raises cause value) = Unit {0}

slti_quiet : (s : State) (lines : ℕ) (supplied : Option Supplied) (word size k : ℕ) → IsQuiet (outcome s lines supplied word size (OpImm Slti 0 0 (pos k)))
unfolding outcome
slti_quiet s lines supplied word size k = refl

gathered : (word : ℕ) (o : Outcome) → ((k : ℕ) → Announces word k → IsQuiet o) → IsQuietAnnouncement word o
gathered word (Does e) quiet = quiet
gathered word (Raises cause value) quiet = tt

pub announcement_quiet : (s : State) (lines : ℕ) (supplied : Option Supplied) (word size : ℕ) (i : Instr) → instruction word ≡ Some i → IsQuietAnnouncement word (outcome s lines supplied word size i)
announcement_quiet s lines supplied word size i reads =
    gathered word _ (λ k announces.
    subst (λ j. IsQuiet (outcome s lines supplied word size j)) (sym (the_slti word k i announces reads)) (slti_quiet s lines supplied word size k))
