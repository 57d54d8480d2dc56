-- What the turns of a period move, and where they lead.
use Rattle.memory_map.specs.declared.TheConstants.{MOST_STEPS}
use Rattle.std.proofs.Common.{◌≡◌, ◌⊎◌, inl, inr, ℕ, ◌+◌, ◌-◌, ◌*◌, ◌<◌, ◌≤◌, true, cond, List, [], ◌++◌, length, take, drop, refl, sym, ap, subst, ◌∙◌, arith}
use Rattle.std.specs.Prelude.{get_or, slice_index}
use Rattle.std.specs.List.{All, Contains}
use Rattle.std.proofs.Math.Seq.{take-add}
use Rattle.std.proofs.lemmas.List.{drop_all, drop-drop, drop-map, length-take, take_all, take_more}
use Rattle.std.proofs.lemmas.List.Elements.{All-contains, All-push}
use Rattle.after_edge.specs.Sink.{Telling, Writes}
use Rattle.after_edge.proofs.SinkLaws.{Adds-then, Writes-nothing, Writes-same, Writes-then}
use Rattle.after_edge.proofs.FaultLaws.{Rose-later}
use Rattle.gate_core.specs.Core.{CoreState, Append, Break, Close, TakeNext, core_after, approves}
use Rattle.gate_core.specs.Hub.{HubState}
use Rattle.gate_core.proofs.CoreLaws.{event_IsSound, set_grows}
use Rattle.output_gate.specs.Gate.{GateState}
use Rattle.any_machine.specs.Recording.{Recording}
use Rattle.run_settings.specs.declared.letter.Letter.{Letter}
use Rattle.run_settings.specs.declared.letter.Letter.TheVariants as letter
use Rattle.run_settings.specs.Patterns.{IsPattern}
use Rattle.turn_run.specs.declared.parts.Parts.{Parts}
use Rattle.turn_run.specs.declared.parts.Recorded.{Recorded}
use Rattle.turn_run.specs.declared.parts.Recorded.TheVariants.{Appended, Closed, Waits, Over}
use Rattle.turn_run.specs.declared.reading.Turn.{Turn}
use Rattle.turn_run.specs.declared.reading.Turn.TheVariants as turn
use Rattle.turn_run.specs.Following.{Following}
use Rattle.turn_run.specs.Course.{Course, log_of, output_of, plan_of}
use Rattle.turn_run.specs.Endings.{end_in}
use Rattle.turn_run.specs.Gates.{Gates}
use Rattle.turn_run.specs.Closings.{IsReadOut}
use Rattle.turn_run.specs.Periods.{HaveMoved, IsIdle, Moves}
use Rattle.turn_run.specs.Replicas.{Follows, core_after_read}
use Rattle.turn_run.specs.Runs.{AllRead, AllTaken, HasBroken, HasCome, HasCrashed, HasReleased, IsAt, IsBesides, Lessens, LessensRead, Reads, Records, approved_count, bytes_between, turns_left, unread, with_released}
use Rattle.turn_run.specs.Sources.{StillToCome, items_left}
use Rattle.turn_run.proofs.CourseLaws.{is_plan}
use Rattle.turn_run.proofs.LeastLaws.{least-rises}
use Rattle.turn_run.proofs.ReleaseLaws.{between_is}
use Rattle.any_machine.specs.Log.{SentByte, bytes_in}

-- BYTES BETWEEN PLACES

between-none : (c : Course) (n : ℕ) → bytes_between c n n ≡ []
between-none c n = ap bytes_in (drop_all n (take n (output_of c)) (omega (arith, length-take n (output_of c))))

between-add : (c : Course) (from first second : ℕ) → bytes_between c from (from + first) ++ bytes_between c (from + first) (from + first + second) ≡ bytes_between c from (from + first + second)
between-add c from first second =
    let rest : List ℕ = bytes_in (drop from (output_of c)) in
    let later : bytes_in (drop (from + first) (output_of c)) ≡ drop first rest =
    ap bytes_in (sym (drop-drop first from (output_of c))) ∙ sym (drop-map (λ (byte : SentByte). byte.byte) first (drop from (output_of c))) in
    (λ i. between_is c from first i ++ between_is c (from + first) second i)
    ∙ ap (λ l. take first rest ++ take second l) later
    ∙ sym (take-add first second rest)
    ∙ sym (between_is c from (first + second))
    ∙ ap (bytes_between c from) (let e : from + (first + second) ≡ from + first + second = omega arith in e)

pub between-then : (c : Course) (from mid to : ℕ) → from ≤ mid → mid ≤ to → bytes_between c from mid ++ bytes_between c mid to ≡ bytes_between c from to
between-then c from mid to low high =
    let first : from + (mid - from) ≡ mid = omega (arith, low) in
    let second : from + (mid - from) + (to - mid) ≡ to = omega (arith, low, high) in
    let Joins : ℕ → ℕ → Type 0 = λ m t. bytes_between c from m ++ bytes_between c m t ≡ bytes_between c from t in
    subst (λ m. Joins m to) first (subst (Joins (from + (mid - from))) second (between-add c from (mid - from) (to - mid)))

module _ {M F : Type 0} (r : Recording M) (f : Following F) (c : Course) where
  module _ {S : Type 0} (sink : Telling S) where
    -- nothing was put
    pub comes : (from : ℕ) (parts : Parts M F) (next : CoreState) (out : S) → IsAt r f c next parts → next.released ≡ from → HasCome r f c from parts sink out out
    comes from parts next out at same = record {
      next = next;
      at = at;
      more = omega (arith, same);
      put = Writes-same sink out out (sym (ap (bytes_between c from) same ∙ between-none c from)) (Writes-nothing sink out);
    }

    pub comes_released : (core : CoreState) (before after : Parts M F) (old new : S) → HasReleased r f c core before after sink old new → HasCome r f c core.released after sink old new
    comes_released core before after old new has = record { next = with_released core has.count; at = has.at; more = has.more; put = has.put }

    pub crashes : (core : CoreState) (before after : Parts M F) (old new : S) → IsAt r f c core before → HasBroken r f c core before after sink old new → HasCrashed r f c core.released after sink old new
    crashes core before after old new at has = record {
      next = core_after (plan_of c) core (Break (approved_count r f c core before.gate) has.done);
      broken = has.broken;
      failed = record { before = core; sound = at.follows.sound; piece = approved_count r f c core before.gate; done = has.done; may = has.may; appended = refl; out = refl };
      more = omega arith;
      put = has.put;
      rose = has.rose;
    }

    -- what two turns put
    pub put_on : (from mid to : ℕ) → from ≤ mid → mid ≤ to → (old now new : S) → Writes sink old now (bytes_between c from mid) → Writes sink now new (bytes_between c mid to) → Writes sink old new (bytes_between c from to)
    put_on from mid to low high old now new first second =
        Writes-same sink old new (between-then c from mid to low high) (Writes-then sink old now new (bytes_between c from mid) (bytes_between c mid to) first second)

    -- one turn more
    module _ (from : ℕ) (mid after : Parts M F) (old now new : S) (has : HasCome r f c from mid sink old now) where
      pub come_on : HasCome r f c has.next.released after sink now new → HasCome r f c from after sink old new
      come_on more = record {
        next = more.next;
        at = more.at;
        more = omega (arith, has.more, more.more);
        put = put_on from has.next.released more.next.released has.more more.more old now new has.put more.put;
      }

      pub crash_on : HasCrashed r f c has.next.released after sink now new → HasCrashed r f c from after sink old new
      crash_on more = record {
        next = more.next;
        broken = more.broken;
        failed = more.failed;
        more = omega (arith, has.more, more.more);
        put = subst (λ l. (held : List ℕ) → sink.holds old held → sink.holds new (held ++ l)) (between-then c from has.next.released more.next.released has.more more.more)
            (Adds-then sink.holds old now new (bytes_between c from has.next.released) (bytes_between c has.next.released more.next.released) has.put.added more.put);
        rose = Rose-later _ _ _ has.put.kept more.rose;
      }

  -- A TURN OF THE RECORDER

  module _ (core : CoreState) (before after : Parts M F) (at : IsAt r f c core before) where
    pub recorded : {S : Type 0} (sink : Telling S) (out : S) (result : Recorded) → Records r f c core result before after → HasCome r f c core.released after sink out out
    recorded sink out Appended has = comes sink core.released after (core_after (plan_of c) core Append) out has.at refl
    recorded sink out Closed has = comes sink core.released after (core_after (plan_of c) core Close) out has.at refl
    recorded sink out Waits has = comes sink core.released after core out has.at refl
    recorded sink out Over has = comes sink core.released after core out (subst (IsAt r f c core) (sym has.1) at) refl

    taken_is : before.hub.taken ≡ core.taken
    taken_is = λ i. (at.follows.stands i).taken

    appended_is : before.hub.appended ≡ core.appended
    appended_is = λ i. (at.follows.stands i).appended

    closed_is : before.hub.closed ≡ core.closed
    closed_is = λ i. (at.follows.stands i).closed

    pub recorder_moves : (result : Recorded) → Records r f c core result before after → Lessens r f result before after → Moves r f letter.Record before after
    recorder_moves Appended has less = inl less
    recorder_moves Closed has less = inl less
    recorder_moves Waits has less = inr (
      record { hub = has.hub; steps = ap (λ (g : GateState). g.steps) has.gate; left = less },
      elim has.crowded [
        | inl (reader, there, full) ↦ inr (inl (record {
          reader = reader;
          there = omega (arith, there, ap length taken_is, at.follows.sound.taken);
          behind = omega (arith, full, at.follows.course.cap, ap (λ l. slice_index l reader) taken_is, appended_is);
        }))
        | inr (crowded, byte) ↦ inr (inr (omega (arith, crowded)))
      ],
    )
    recorder_moves Over has less = inr (
      record { hub = ap (λ (p : Parts M F). p.hub) has.1; steps = ap (λ (p : Parts M F). p.gate.steps) has.1; left = less },
      inl (closed_is ∙ has.0),
    )

    -- A TURN OF A FOLLOWER

    -- the gate stands as well where a reader has posted again
    gates_read : (reader : ℕ) → reader < length c.limits → slice_index core.taken reader < core.appended → Gates c (core_after_read c core reader) before.gate
    gates_read reader there less =
        let g = at.gates in
        let is = is_plan c at.follows.course in
        let took = event_IsSound (plan_of c) core (TakeNext reader) is at.follows.sound (there, less) in
        let one = took.readers reader there in
        let low : slice_index core.approved reader ≤ approves (plan_of c) (core_after (plan_of c) core (TakeNext reader)) reader = omega (arith, one.limit, one.seen) in
        let grows = least-rises core.approved (core_after_read c core reader).approved MOST_STEPS c.required
        (λ place lt. set_grows core.approved reader (approves (plan_of c) (core_after (plan_of c) core (TakeNext reader)) reader) low (slice_index c.required place)) in
        record {
          steps = g.steps;
          bytes = g.bytes;
          issued = g.issued;
          released = g.released;
          last = g.last;
          passed = omega (arith, g.passed, grows);
          withheld = g.withheld;
          sound = g.sound;
          there = g.there;
          few = g.few;
        }

    module _ (besides : IsBesides before after) where
      beside : (next : CoreState) → next.appended ≡ core.appended → next.failed ≡ core.failed → Follows f c next after.hub after.followers.items → Gates c next before.gate → IsAt r f c next after
      beside next appended failed follows gates = record {
        follows = follows;
        rest = subst (λ s. StillToCome r s (drop next.appended c.items)) (sym besides.source) (subst (λ n. StillToCome r before.source (drop n c.items)) (sym appended) at.rest);
        gates = subst (Gates c next) (sym besides.gate) gates;
        required = (λ i. (besides.required i).items) ∙ at.required;
        end = besides.end ∙ at.end ∙ ap (λ n. end_in (take n (log_of c))) (sym appended);
        sound = failed ∙ at.sound;
      }

      none_read : (after.hub ≡ before.hub) × (after.followers.items ≡ before.followers.items) → IsAt r f c core after
      none_read same = beside core refl refl (subst (λ h. Follows f c core h after.followers.items) (sym same.0) (subst (Follows f c core before.hub) (sym same.1) at.follows)) at.gates

      pub read_comes : {S : Type 0} (sink : Telling S) (out : S) (reader : ℕ) → reader < length c.limits → (result : Turn) → Reads f c core reader result before after → LessensRead result before after → HasCome r f c core.released after sink out out
      read_comes sink out reader there turn.Took has less = comes sink core.released after (core_after_read c core reader) out (beside (core_after_read c core reader) refl refl has.1 (gates_read reader there has.0)) refl
      read_comes sink out reader there turn.Empty has less = comes sink core.released after core out (none_read less) refl
      read_comes sink out reader there turn.Closed has less = comes sink core.released after core out (none_read less) refl

      -- what is left where the log is read on, or is as before
      left_read : unread after.hub < unread before.hub → after.hub.closed ≡ before.hub.closed → length after.hub.taken ≡ length before.hub.taken → turns_left r f after < turns_left r f before
      left_read less closed readers =
          let items : items_left r after.source * (length after.hub.taken + 2) ≡ items_left r before.source * (length before.hub.taken + 2) = (λ i. items_left r (besides.source i) * (readers i + 2)) in
          let waiting : length after.gate.steps ≡ length before.gate.steps = ap (λ (g : GateState). length g.steps) besides.gate in
          omega (arith, less, items, waiting, ap {B = ℕ} (λ b. cond b 0 1) closed)

      left_same : after.hub ≡ before.hub → turns_left r f after ≤ turns_left r f before
      left_same same =
          let items : items_left r after.source * (length after.hub.taken + 2) ≡ items_left r before.source * (length before.hub.taken + 2) = (λ i. items_left r (besides.source i) * (length (same i).taken + 2)) in
          let waiting : length after.gate.steps ≡ length before.gate.steps = ap (λ (g : GateState). length g.steps) besides.gate in
          omega (arith, items, waiting, ap unread same, ap {B = ℕ} (λ (h : HubState). cond h.closed 0 1) same)

      idle_read : (reader : ℕ) → (after.hub ≡ before.hub) × (after.followers.items ≡ before.followers.items) → slice_index core.taken reader ≡ core.appended → Moves r f (letter.Read reader) before after
      idle_read reader same all = inr (
        record { hub = same.0; steps = ap (λ (g : GateState). g.steps) besides.gate; left = left_same same.0 },
        ap (λ l. slice_index l reader) taken_is ∙ all ∙ sym appended_is,
      )

      pub reader_moves : (reader : ℕ) (result : Turn) → Reads f c core reader result before after → LessensRead result before after → Moves r f (letter.Read reader) before after
      reader_moves reader turn.Took has less = inl (left_read less.0 less.1 less.2)
      reader_moves reader turn.Empty has less = idle_read reader less has.1
      reader_moves reader turn.Closed has less = idle_read reader less has.1

    -- A TURN OF THE GATE

    all_taken : AllRead before.hub → AllTaken c core
    all_taken all reader there = sym (ap (λ l. slice_index l reader) taken_is) ∙ all reader (omega (arith, there, ap length taken_is, at.follows.sound.taken)) ∙ appended_is

    pub gate_moves : {S : Type 0} (sink : Telling S) (old new : S) → HasReleased r f c core before after sink old new → Moves r f letter.Release before after
    gate_moves sink old new has =
        let items : items_left r after.source * (length after.hub.taken + 2) ≡ items_left r before.source * (length before.hub.taken + 2) = (λ i. items_left r (has.source i) * (length (has.hub i).taken + 2)) in
        let same_unread : unread after.hub ≡ unread before.hub = ap unread has.hub in
        let same_closed : cond {A = ℕ} after.hub.closed 0 1 ≡ cond before.hub.closed 0 1 = ap {B = ℕ} (λ (h : HubState). cond h.closed 0 1) has.hub in
        elim has.fewer [
          | inl (steps, count) ↦ inr (
            record { hub = has.hub; steps = steps; left = omega (arith, items, same_unread, same_closed, ap length steps) },
            λ all. sym steps ∙ has.none (all_taken all),
          )
          | inr less ↦ inl (omega (arith, items, same_unread, same_closed, less))
        ]

-- A PERIOD IN WHICH NOTHING MOVES

-- where no one has anything to do, the log is closed and read out
pub all_idle : {M F : Type 0} (parts : Parts M F) (turns : List Letter) → IsPattern (length parts.hub.taken) turns → All (IsIdle parts.hub parts.gate.steps) turns → IsReadOut parts
all_idle parts turns pattern idle =
    let hub = parts.hub in
    let each : (letter : Letter) → Contains turns letter → IsIdle hub parts.gate.steps letter = λ letter there. All-contains (IsIdle hub parts.gate.steps) turns letter idle there in
    let all : AllRead hub = λ reader there. each (letter.Read reader) (pattern.reads reader there) in
    let none : parts.gate.steps ≡ [] = each letter.Release pattern.releases all in
    let closed : hub.closed ≡ true = elim (each letter.Record pattern.records) [
      | inl is ↦ is
      | inr busy ↦ absurd (elim busy [
        | inl b ↦ omega (arith, b.behind, all b.reader b.there)
        | inr some ↦ omega (arith, some, ap length none)
      ])
    ] in
    (closed, all)

module _ {M F : Type 0} (r : Recording M) (f : Following F) (before : Parts M F) where
  -- one turn more
  pub move_on : (mid after : Parts M F) (turns : List Letter) (place : ℕ) (d : Letter) → place < length turns → HaveMoved r f (take place turns) before mid → Moves r f (get_or turns place d) mid after → HaveMoved r f (take (place + 1) turns) before after
  move_on mid after turns place d there so_far moves = elim so_far [
    | inl less ↦ inl (elim moves [
      | inl more ↦ omega (arith, less, more)
      | inr (still, idle) ↦ omega (arith, less, still.left)
    ])
    | inr (same, all) ↦ elim moves [
      | inl less ↦ inl (omega (arith, less, same.left))
      | inr (still, idle) ↦ inr (
        record { hub = still.hub ∙ same.hub; steps = still.steps ∙ same.steps; left = omega (arith, still.left, same.left) },
        subst (All (IsIdle before.hub before.gate.steps)) (sym (take_more turns place d there))
            (All-push (IsIdle before.hub before.gate.steps) (take place turns) (get_or turns place d) all
            (subst (λ h. IsIdle h before.gate.steps (get_or turns place d)) same.hub (subst (λ s. IsIdle mid.hub s (get_or turns place d)) same.steps idle))),
      )
    ]
  ]

  -- all turns of a period are over
  pub moved_all : (after : Parts M F) (turns : List Letter) (place : ℕ) → length turns ≤ place → HaveMoved r f (take place turns) before after → HaveMoved r f turns before after
  moved_all after turns place all moved = subst (λ turns. HaveMoved r f turns before after) (take_all place turns all) moved

  -- a whole period has moved something, or the run was read out
  pub falls : (after : Parts M F) (turns : List Letter) → IsPattern (length before.hub.taken) turns → HaveMoved r f turns before after → (turns_left r f after < turns_left r f before) ⊎ IsReadOut before
  falls after turns pattern moved = elim moved [
    | inl less ↦ inl less
    | inr (still, idle) ↦ inr (all_idle before turns pattern idle)
  ]
