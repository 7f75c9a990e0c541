-- What a find comes to on a list, by what the search found: the words of the standing cell are those of the key's node.
use mathlib.Core.Path.{◌≡◌, refl, ap, ap₂, ◌∙◌}
use mathlib.Core.Bool.{true, false}
use mathlib.Core.List.{List}
use Prim.Native.Nat.{ℕ}
use Rattle.settings.specs.declared.Settings.{Settings}
use Rattle.meaning.specs.Row.{Node}
use Rattle.meaning.specs.State.{State}
use Rattle.meaning.specs.Picture.{picture}
use Rattle.answers.specs.Refusals.{answer, answer_of, Meets}
use Rattle.answers.specs.declared.Refusal.TheVariants.{KeyNotLive}
use Rattle.answers.specs.declared.Answer.{Answer}
use Rattle.meaning.specs.Operations.{find_out}
use Rattle.meaning.specs.Words.{value_at, mark_at}
use Rattle.meaning.proofs.Pictures.State.{Sound}
use Rattle.meaning.proofs.Cells.Placed.{place_value}
use Rattle.meaning.proofs.Outcomes.{find_outcome_absent, find_outcome_dead, find_outcome_live}
use Rattle.search.specs.Found.{Sought}
use Rattle.search.specs.declared.Found.{Found}
use Rattle.search.proofs.Slots.{Present, node_placed, found_standing, found_missing, marked_live, marked_dead, on_sought}

-- the value that is read is that of the node
value_read : {t : State} → Sound t → {k : ℕ} {x : Node} {f : Found} → Present t k x f → value_at (picture t) f.c ≡ x.value
value_read {t} v {k} {x} p =
    let at = node_placed v k x p.node in
    ap (value_at (picture t)) p.c ∙ place_value v at.1.0 ∙ ap (λ y. y.value) at.1.1

-- The outcome of each way out

module _ {ws : List ℕ} {s : Settings} {key : ℕ} {f : Found} (k : Sought ws s key f) {r : Answer} where
  pub missing_meets : f.standing ≡ false → r ≡ answer_of (KeyNotLive key f.looked) → Meets (find_out ws key) r ws
  missing_meets e a =
      on_sought (λ t ws s. Meets (find_out ws key) r ws) k
      (λ t v m q.
      let found = found_missing v k.least q e in
      rw (find_outcome_absent t v key k.least m found.node)
      (record { answered = a ∙ ap (λ n. answer_of (KeyNotLive key n)) found.looked; left = refl }))

  pub dead_meets : f.standing ≡ true → {m : ℕ} → m ≡ mark_at ws f.c → (m ≡ 1 → ⊥) → r ≡ answer_of (KeyNotLive key f.looked) → Meets (find_out ws key) r ws
  dead_meets e {m} reads dead a =
      on_sought (λ t ws s. m ≡ mark_at ws f.c → Meets (find_out ws key) r ws) k
      (λ t v l q marked.
      let (x, found) = found_standing v k.least q e in
      rw (find_outcome_dead t v key k.least l x found.node (marked_dead v found marked dead))
      (record { answered = a ∙ ap (λ n. answer_of (KeyNotLive key n)) found.looked; left = refl }))
      reads

  pub live_meets : f.standing ≡ true → {m value : ℕ} → m ≡ mark_at ws f.c → m ≡ 1 → value ≡ value_at ws f.c → r ≡ answer 0 key value f.looked →
      Meets (find_out ws key) r ws
  live_meets e {m} {value} reads live valued a =
      on_sought (λ t ws s. m ≡ mark_at ws f.c → value ≡ value_at ws f.c → Meets (find_out ws key) r ws) k
      (λ t v l q marked w.
      let (x, found) = found_standing v k.least q e in
      rw (find_outcome_live t v key k.least l x found.node (marked_live v found marked live))
      (record { answered = a ∙ ap₂ (answer 0 key) (w ∙ value_read v found) found.looked; left = refl }))
      reads valued
