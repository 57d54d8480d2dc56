-- What stands of a run that is over.
use Rattle.std.proofs.Common.{◌≡◌, ℕ, ◌<◌, ◌≤◌, true, length, take, Some, sym, ap, subst, ◌∙◌, arith}
use Rattle.std.specs.Prelude.{slice_get, slice_index}
use Rattle.std.proofs.lemmas.List.{length-take-le, take-map, take_all}
use Rattle.std.proofs.lemmas.Option.{slice_get_within}
use Rattle.circular_buffer.specs.Buffer.{keep_last}
use Rattle.run_events.specs.declared.item.Item.{Item}
use Rattle.any_machine.specs.Recording.{Recording}
use Rattle.gate_core.specs.Core.{CoreState}
use Rattle.gate_core.specs.Hub.{HubState, verdict_at}
use Rattle.turn_run.specs.declared.closing.Closing.{Closing}
use Rattle.turn_run.specs.declared.parts.Parts.{Parts}
use Rattle.turn_run.specs.Following.{Following}
use Rattle.turn_run.specs.Closings.{Closes, IsCutRun, IsWholeRun, HasFollowed, IsEnded, IsStopped, records_of}
use Rattle.turn_run.specs.Course.{Course, Agrees, log_of}
use Rattle.turn_run.specs.Endings.{end_in}
use Rattle.turn_run.specs.Gates.{issued_by}
use Rattle.turn_run.specs.Replicas.{Follows}
use Rattle.turn_run.specs.Runs.{AllTaken}
use Rattle.turn_run.proofs.CourseLaws.{length_log}

abbrev pub closing_of : {M F : Type 0} → Parts M F → Closing F
closing_of parts = record { hub = parts.hub; followers = parts.followers; gate = parts.gate; end = parts.end }

module _ {M F : Type 0} (f : Following F) (c : Course) (core : CoreState) (parts : Parts M F) (fs : Follows f c core parts.hub parts.followers.items) (closed : core.closed ≡ true) (taken : AllTaken c core) where
  few : core.appended ≤ length c.items
  few = omega (arith, fs.sound.appended, length_log c fs.course)

  length_is : length (take core.appended c.items) ≡ core.appended
  length_is = length-take-le core.appended c.items few

  records_are : take core.appended (log_of c) ≡ records_of (take core.appended c.items)
  records_are = take-map (λ (i : Item). i.item) core.appended c.items

  has_followed : (reader : ℕ) (follower : F) → slice_get parts.followers.items reader ≡ Some follower → HasFollowed f c reader (take core.appended c.items) follower (verdict_at parts.hub reader)
  has_followed reader follower at =
      let there : reader < length c.limits = omega (arith, slice_get_within parts.followers.items reader follower at, fs.count) in
      let it = fs.each reader follower at in
      let all : take (slice_index core.taken reader) (log_of c) ≡ records_of (take core.appended c.items) = ap (λ n. take n (log_of c)) (taken reader there) ∙ records_are in
      let posted : verdict_at parts.hub reader ≡ f.verdict follower (records_of (take core.appended c.items)) = fs.posted reader follower at ∙ ap (f.verdict follower) all in
      record {
        taken = subst (f.has_taken follower) all it.taken;
        posted = posted;
        agrees = subst (Agrees c reader (length (take core.appended c.items))) (sym posted)
            (subst (λ n. Agrees c reader n (f.verdict follower (records_of (take core.appended c.items)))) (sym length_is)
            (subst (λ l. Agrees c reader core.appended (f.verdict follower l)) records_are (it.agrees core.appended few)));
      }

  pub closes : parts.end ≡ end_in (take core.appended (log_of c)) → parts.gate.issued ≡ length (issued_by c core.appended) → Closes f c (take core.appended c.items) (closing_of parts)
  closes end issued =
      let counts : parts.hub.taken ≡ core.taken = λ i. (fs.stands i).taken in
      record {
        closed = ap (λ (h : HubState). h.closed) fs.stands ∙ closed;
        appended = ap (λ (h : HubState). h.appended) fs.stands ∙ sym length_is;
        stored = ap (λ (h : HubState). h.stored) fs.stands ∙ ap (keep_last c.cap) records_are;
        readers = ap length counts ∙ fs.sound.taken;
        taken = λ reader there. ap (λ l. slice_index l reader) counts ∙ taken reader there ∙ sym length_is;
        followers = fs.count;
        each = has_followed;
        ending = end ∙ ap end_in records_are;
        issued = issued;
      }

module _ {M F : Type 0} (r : Recording M) (f : Following F) (c : Course) (parts : Parts M F) where
  pub closes_whole : IsEnded r f c parts → IsWholeRun f c (closing_of parts)
  closes_whole ended =
      let all : take ended.core.appended c.items ≡ c.items = take_all ended.core.appended c.items (omega (arith, ended.appended)) in
      record {
        closes = subst (λ l. Closes f c l (closing_of parts)) all (closes f c ended.core parts ended.at.follows ended.closed ended.taken ended.at.end ended.at.gates.issued);
        released = ended.at.gates.released ∙ ended.released;
        none = ended.none;
      }

  pub closes_cut : (count put : ℕ) → IsStopped r f c count put parts → IsCutRun f c count put (closing_of parts)
  closes_cut count put stopped =
      let b = stopped.broken in
      record {
        within = omega (arith, b.follows.sound.appended, length_log c b.follows.course, stopped.appended);
        closes = subst (λ n. Closes f c (take n c.items) (closing_of parts)) stopped.appended (closes f c stopped.core parts b.follows stopped.closed stopped.taken b.end b.issued);
        released = omega (arith, b.released, stopped.released);
        there = stopped.within;
      }
