-- What there is to complain of the heap goes by the uses of RAM's bytes alone.
use Rattle.std.proofs.Common.{◌≡◌, ℕ, ◌+◌, ◌-◌, ◌*◌, ◌<◌, ◌≤◌, min, max, true, false, not, Option, None, Some, refl, ap, ◌∙◌, arith}
use Rattle.std.specs.Option.{option_map, option_or}
use Rattle.list_laws.specs.Least.{least_from}
use Rattle.list_laws.proofs.LeastLaws.{least_same, least_made}
use Rattle.memory_map.specs.declared.TheConstants.{RAM_START}
use Rattle.memory_map.specs.Ram.{InRam}
use Rattle.run_events.specs.declared.access.Access.{Access}
use Rattle.run_events.specs.declared.access.Access.TheVariants.{Quiet, Load, Store, Swap}
use Rattle.run_events.specs.declared.announcement.Announcement.{Announcement}
use Rattle.run_events.specs.declared.announcement.Announcement.TheVariants.{Allocate, Free, Acquire, Release, Enter, Check, Guard}
use Rattle.run_events.specs.declared.event.Event.{Event}
use Rattle.run_events.specs.declared.event.Event.TheVariants.{Dma, Irq, Trap, Exec}
use Rattle.run_events.specs.Announcement.{announced_by}
use Rattle.run_events.specs.Event.{AccessFits, Fits}
use Rattle.analysis_model.specs.Heap.{ByteUse, is_forbidden, is_live, touch_kind, bad_touch, touch, bad_free, free, heap_by}
use Rattle.analysis_model.specs.InRam.{IsByteOf}
use Rattle.analysis_model.specs.Look.{Complaint}

abbrev touched_as : ℕ → ByteUse → Complaint
touched_as address is = record { kind = touch_kind is; address = address }

module _ (kib : ℕ) (f g : ℕ → ByteUse) (same : (address : ℕ) → IsByteOf kib address → f address ≡ g address) where
  touch_same : (from len : ℕ) → InRam (1024 * kib) from len → option_map (bad_touch f) (least_from (λ a. is_forbidden (f a)) from len) ≡ option_map (bad_touch g) (least_from (λ a. is_forbidden (g a)) from len)
  touch_same from len within =
      least_made (bad_touch f) (bad_touch g) (λ a. is_forbidden (f a)) (λ a. is_forbidden (g a)) from len
      (λ n low high. ap is_forbidden (same n (byte n low high)))
      (λ n low high. ap (touched_as n) (same n (byte n low high)))
    where
      byte : (n : ℕ) → from ≤ n → n < from + len → IsByteOf kib n
      byte n low high = record { from = omega (arith, within.from); to = omega (arith, within.to) }

  pub touch-same : (access : Access) → AccessFits kib access → touch f access ≡ touch g access
  touch-same Quiet fits = least_made (bad_touch f) (bad_touch g) (λ a. is_forbidden (f a)) (λ a. is_forbidden (g a)) 0 0 (λ n low high. absurd (omega arith)) (λ n low high. absurd (omega arith))
  touch-same (Load address width value true mark) fits = refl
  touch-same (Load address width value false mark) fits = touch_same address width fits.within
  touch-same (Store address width value true) fits = refl
  touch-same (Store address width value false) fits = touch_same address width fits.within
  touch-same (Swap address old new) fits = touch_same address 4 fits.within

  free-same : (told : Option Announcement) → free kib f told ≡ free kib g told
  free-same None = refl
  free-same (Some (Allocate start size)) = refl
  free-same (Some (Free start size)) =
      ap (option_map bad_free) (least_same (λ a. not (is_live (f a))) (λ a. not (is_live (g a))) (max start RAM_START) (min (start + size) (RAM_START + 1024 * kib) - max start RAM_START)
      (λ n low high. ap (λ u. not (is_live u)) (same n (record { from = omega arith; to = omega arith }))))
  free-same (Some (Acquire lock)) = refl
  free-same (Some (Release lock)) = refl
  free-same (Some (Enter context)) = refl
  free-same (Some (Check start size)) = refl
  free-same (Some (Guard start size lock)) = refl

  -- where two agree on the bytes of RAM
  pub heap_by-same : (event : Event) → Fits kib event → heap_by kib f event ≡ heap_by kib g event
  heap_by-same (Dma step address word mark) fits = refl
  heap_by-same (Irq step pc cause next) fits = refl
  heap_by-same (Trap step pc word cause value next) fits = refl
  heap_by-same (Exec step pc word next result access told) fits =
      ap (λ o. option_or o (touch f access)) (free-same (announced_by word told)) ∙ ap (option_or (free kib g (announced_by word told))) (touch-same access fits.data_fits)
