-- What a turn of a reader answers, for a run.
use Rattle.std.proofs.Common.{◌≡◌, ℕ, ◌<◌, List, [], ◌∷◌, ◌++◌, length, take, Some, sym, ap, subst, ◌∙◌, arith}
use Rattle.std.specs.Prelude.{slice_get, slice_index, slice_set}
use Rattle.std.proofs.lemmas.List.{set-get_or}
use Rattle.std.proofs.lemmas.Option.{get_or_from_slice_get}
use Rattle.run_events.specs.declared.record.Record.{Record}
use Rattle.gate_core.specs.Core.{CoreState}
use Rattle.gate_core.specs.Hub.{HubState}
use Rattle.turn_run.specs.declared.parts.Parts.{Parts}
use Rattle.turn_run.specs.declared.reading.Turn.{Turn}
use Rattle.turn_run.specs.declared.reading.Turn.TheVariants.{Took, Empty, Closed}
use Rattle.turn_run.specs.Following.{Following}
use Rattle.turn_run.specs.Course.{Course, log_of}
use Rattle.turn_run.specs.Replicas.{Follows, Turned, core_after_read}
use Rattle.turn_run.specs.Runs.{LessensRead, Reads, IsFollowed, unread}
use Rattle.turn_run.proofs.ReadLaws.{follows_now, took_less, unread-took}

-- what the turn of the follower at a place makes of the run
module _ {M F : Type 0} (f : Following F) (c : Course) (core : CoreState) (before : Parts M F) (fs : IsFollowed f c core before) (reader : ℕ) (old new : F) (at : slice_get before.followers.items reader ≡ Some old) (hub : HubState) where
  pub reads_of : (after : Parts M F) (turn : Turn) → Turned f turn before.hub hub reader old new (take (slice_index core.taken reader) (log_of c)) → after.hub ≡ hub → after.followers.items ≡ slice_set before.followers.items reader new
      → Reads f c core reader turn before after
  reads_of after Took t hub_is followers_are = (
    took_less f c core before.hub before.followers.items fs reader old new at hub t,
    subst (Follows f c (core_after_read c core reader) after.hub) (sym followers_are)
        (subst (λ h. Follows f c (core_after_read c core reader) h (slice_set before.followers.items reader new)) (sym hub_is) (follows_now f c core before.hub before.followers.items fs reader old new at hub t)),
  )
  reads_of after Empty t hub_is followers_are = (ap (λ (h : HubState). h.closed) (sym fs.stands) ∙ t.0, omega (arith, t.1.all, ap (λ (h : HubState). slice_index h.taken reader) fs.stands, ap (λ (h : HubState). h.appended) fs.stands))
  reads_of after Closed t hub_is followers_are = (ap (λ (h : HubState). h.closed) (sym fs.stands) ∙ t.0, omega (arith, t.1.all, ap (λ (h : HubState). slice_index h.taken reader) fs.stands, ap (λ (h : HubState). h.appended) fs.stands))

-- and what it leaves to be read
module _ {M F : Type 0} (f : Following F) (before after : Parts M F) (reader : ℕ) (there : reader < length before.hub.taken) (old new : F) (at : slice_get before.followers.items reader ≡ Some old)
    (followers_are : after.followers.items ≡ slice_set before.followers.items reader new) where
  none_read : new ≡ old → after.followers.items ≡ before.followers.items
  none_read same =
      followers_are
      ∙ ap (slice_set before.followers.items reader) (same ∙ sym (get_or_from_slice_get before.followers.items reader old old at))
      ∙ set-get_or before.followers.items reader old

  pub lessens_of : (turn : Turn) (items : List Record) → Turned f turn before.hub after.hub reader old new items → LessensRead turn before after
  lessens_of Took items t =
      let less = unread-took before.hub reader (f.verdict new (items ++ t.item ∷ [])) there t.given.0 in (
        subst (λ h. unread h < unread before.hub) (sym t.hub_is) less.0,
        ap (λ (h : HubState). h.closed) t.hub_is,
        ap (λ (h : HubState). length h.taken) t.hub_is ∙ less.1,
      )
  lessens_of Empty items t = (t.1.same_hub, none_read t.1.same)
  lessens_of Closed items t = (t.1.same_hub, none_read t.1.same)
