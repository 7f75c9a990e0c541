-- Each way out of finish has the outcome of the definition, by what the search found.
use mathlib.Core.Path.{◌≡◌, refl, sym, ap, ◌∙◌}
use mathlib.Core.Bool.{true, false}
use mathlib.Core.List.{List}
use Prim.Native.Nat.{ℕ, ◌-◌}
use Rattle.settings.specs.declared.Settings.{Settings}
use Rattle.answers.specs.Refusals.{answer, Meets}
use Rattle.meaning.specs.Operations.{finish_out}
use Rattle.meaning.specs.Layer.Stores.{finish_words}
use Rattle.meaning.specs.Words.{low_at, high_at}
use Rattle.answers.specs.declared.Answer.{Answer}
use Rattle.meaning.proofs.Written.FinishWords.{finish_words_lem, finish_moved}
use Rattle.meaning.proofs.Outcomes.{finish_outcome_absent, finish_outcome_standing}
use Rattle.search.specs.Found.{Sought}
use Rattle.search.specs.declared.Found.{Found}
use Rattle.search.proofs.Slots.{found_standing, found_missing, on_sought}

module _ {ws : List ℕ} {s : Settings} {key : ℕ} {f : Found} (k : Sought ws s key f) where
  pub absent_meets : {r : Answer} → f.standing ≡ false → r ≡ answer 8 key 0 0 → Meets (finish_out ws key) r ws
  absent_meets {r} e a =
      on_sought (λ t ws s. Meets (finish_out ws key) r ws) k
      (λ t v m q. rw (finish_outcome_absent t v key k.least m (found_missing v k.least q e).node) (record { answered = a; left = refl }))

  pub standing_meets :
      {r : Answer} {left : List ℕ} {moved : ℕ} → f.standing ≡ true → moved ≡ high_at ws f.c - low_at ws f.c →
      left ≡ finish_words s.dimensions ws f.c → r ≡ answer 0 key 0 moved → Meets (finish_out ws key) r left
  standing_meets {r} {left} {moved} e count written a =
      on_sought (λ t ws s. moved ≡ high_at ws f.c - low_at ws f.c → left ≡ finish_words s.dimensions ws f.c → Meets (finish_out ws key) r left) k
      (λ t v m q n w.
      let (x, found) = found_standing v k.least q e in
      rw (finish_outcome_standing t v key k.least m x found.node, ← found.c) (record {
        answered = a ∙ ap (answer 0 key 0) (n ∙ sym (finish_moved t v f.c found.c_stands));
        left = w ∙ sym (finish_words_lem t v f.c found.c_stands);
      }))
      count written
