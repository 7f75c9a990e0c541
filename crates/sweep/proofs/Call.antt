-- Each way out of a sweep has the outcome of the definition: what is left is the picture of the swept state, and the count is that of the
-- nodes freed, whether all was paid before or not.
use mathlib.Core.Path.{◌≡◌, sym, ap, ◌∙◌}
use mathlib.Core.List.{List, map}
use Prim.Native.Nat.{ℕ, ◌+◌, ◌-◌}
use native.Mathlib.Omega.{arith}
use lib.ListN.{length, length-map, length-reverse_aux}
use Rattle.settings.specs.declared.Settings.{Settings}
use Rattle.meaning.specs.State.{State}
use Rattle.meaning.specs.Picture.{picture}
use Rattle.meaning.specs.Reading.{read}
use Rattle.answers.specs.Refusals.{answer, accepted, Meets}
use Rattle.meaning.specs.Row.{last_of}
use Rattle.meaning.specs.Operations.{paid, with_row, dead_front, freed_by, swept, sweep_out}
use Rattle.meaning.specs.Layer.SweepStores.{finish_all}
use Rattle.answers.specs.declared.Answer.{Answer}
use Rattle.meaning.specs.Layer.Listed.{Listed}
use Rattle.meaning.proofs.Written.SweepWords.{swept_paid, swept_stays}
use Rattle.meaning.proofs.Outcomes.{sweep_outcome}
use Rattle.words.proofs.Listed.{on_listed}
use Rattle.free_between.specs.declared.Target.{Target}
use Rattle.free_between.specs.Between.{SweptTo, Paid}
use Rattle.sweep.proofs.Lists.{paid_read}

-- The swept state

-- freed cells are free
freed_count : (u : State) → length (swept u).free ≡ length (freed_by u.row) + length u.free
unfolding swept
freed_count u =
    omega (arith, length-reverse_aux (map (λ x. x.cell) (freed_by u.row)) u.free, length-map (freed_by u.row) (λ x. x.cell))

listed_outcome : {ws : List ℕ} {s : Settings} → Listed ws s → sweep_out ws ≡ accepted 0 0 (length (freed_by (read ws).row)) (picture (swept (read ws)))
listed_outcome = on_listed (λ t ws s. sweep_out ws ≡ accepted 0 0 (length (freed_by t.row)) (picture (swept t))) sweep_outcome

module _ {ws : List ℕ} {s : Settings} (h : Listed ws s) {all : List ℕ} (pays : all ≡ finish_all s.dimensions ws 1 (s.cells - 1)) where
  pub swept_meets :
      {r : Answer} {left : List ℕ} {count : ℕ} → left ≡ picture (swept (read all)) → count ≡ length (freed_by (read all).row) →
      r ≡ answer 0 0 0 count → Meets (sweep_out ws) r left
  swept_meets words freed a =
      let same = paid_read h pays in
      let result : swept (read all) ≡ swept (read ws) = ap swept same ∙ swept_paid (read ws) in
      let number : length (freed_by (read all).row) ≡ length (freed_by (read ws).row) =
      omega (arith, freed_count (read all), freed_count (read ws), ap (λ u. length u.free) result, ap (λ u. length u.free) same) in
      rw (listed_outcome h) (record { answered = a ∙ ap (answer 0 0 0) (freed ∙ number); left = words ∙ ap picture result })

  -- the position stays the head
  pub stays_meets : {t : Target} {r : Answer} → Paid all s → SweptTo all s t → t.cell ≡ 0 → r ≡ answer 0 0 0 0 → Meets (sweep_out ws) r all
  stays_meets k to none a =
      let so : (all ≡ picture (swept (read all))) × (0 ≡ length (freed_by (read all).row)) =
      on_listed
      (λ u ws s. map paid u.row ≡ u.row → (last_of (dead_front u.row)).cell ≡ 0 → (ws ≡ picture (swept u)) × (0 ≡ length (freed_by u.row)))
      (λ u v unowing head.
      let same : swept u ≡ u = swept_stays u v head ∙ ap (with_row u) unowing in
      (ap picture (sym same), omega (arith, freed_count u, ap (λ g. length g.free) same)))
      k.listed k.unowing (sym to.cell ∙ none) in
      swept_meets so.0 so.1 a
