-- The free chain. A chain that ends has one length, so from each of its cells there is another number of cells to the end, and its
-- cells are distinct; then each is followed by the cell that its first word holds.
use mathlib.Core.Path.{◌≡◌, refl, sym, ◌∙◌, ap, subst}
use mathlib.Core.Bool.{Bool, true, false, cond, false≢true}
use mathlib.Core.List.{List, [], ◌∷◌}
use Prim.Native.Nat.{ℕ, zero, suc, ◌≤◌, ◌<◌}
use native.Mathlib.Decide.{ℕ_discrete}
use native.Mathlib.Omega.{arith}
use lib.ListN.{length}
use borrow.Author.Tests.{eqb-true}
use Rattle.lists.specs.Lists.{first_number}
use Rattle.lists.proofs.Occurrences.{Distinct}
use Rattle.lists.proofs.All.{All, all_map, all_zip}
use Rattle.meaning.specs.Picture.{next_free}
use Rattle.meaning.specs.Words.{word_at, mark_at}
use Rattle.meaning.proofs.Pictures.ReadBack.{Follow, distinct_follow}
use Rattle.meaning.proofs.Cells.Placed.{FreeHeld}
use Rattle.account.specs.Tree.{free_right, chain_right}
use Rattle.account.proofs.AcceptedTests.{Head, FreeTested, free_right_lem}

-- The chain

-- the n cells of the chain from c
unfoldable pub chain_cells : List ℕ → ℕ → ℕ → List ℕ
chain_cells ws zero c = []
chain_cells ws (suc n) c = c ∷ chain_cells ws n (word_at ws c 0)

pub chain_length : (ws : List ℕ) (n c : ℕ) → length (chain_cells ws n c) ≡ n
unfolding chain_cells
chain_length ws zero c = refl
chain_length ws (suc n) c = ap suc (chain_length ws n (word_at ws c 0))

chain_step : (ws : List ℕ) (n c : ℕ) → chain_right ws (suc n) c ≡ true → FreeTested ws c × (chain_right ws n (word_at ws c 0) ≡ true)
unfolding chain_right
chain_step ws n c e = at (free_right ws c) refl e
  where
    at : (t : Bool) → free_right ws c ≡ t → cond t (chain_right ws n (word_at ws c 0)) false ≡ true → FreeTested ws c × (chain_right ws n (word_at ws c 0) ≡ true)
    at true q h = (free_right_lem ws c q, h)
    at false q h = absurd (false≢true h)

chain_end : (ws : List ℕ) (c : ℕ) → chain_right ws 0 c ≡ true → c ≡ 0
unfolding chain_right
chain_end ws c e = eqb-true c 0 e

pub chain_free : (ws : List ℕ) (n c : ℕ) → chain_right ws n c ≡ true → All (FreeTested ws) (chain_cells ws n c)
unfolding chain_cells
chain_free ws zero c e = tt
chain_free ws (suc n) c e = let t = chain_step ws n c e in (t.0, chain_free ws n (word_at ws c 0) t.1)

pub chain_first : (ws : List ℕ) (n c : ℕ) → chain_right ws n c ≡ true → c ≡ first_number (chain_cells ws n c)
unfolding chain_cells
chain_first ws zero c e = chain_end ws c e
chain_first ws (suc n) c e = refl

-- each leads to the next
abbrev Leads : List ℕ → List ℕ → Type 0
Leads ws [] = Unit {0}
Leads ws (c ∷ cs) = (word_at ws c 0 ≡ first_number cs) × Leads ws cs

chain_leads : (ws : List ℕ) (n c : ℕ) → chain_right ws n c ≡ true → Leads ws (chain_cells ws n c)
unfolding chain_cells
chain_leads ws zero c e = tt
chain_leads ws (suc n) c e =
    let t = chain_step ws n c e in
    (chain_first ws n (word_at ws c 0) t.1, chain_leads ws n (word_at ws c 0) t.1)

pub free_mark_lem : (ws : List ℕ) (c : ℕ) → FreeTested ws c → mark_at ws c ≡ 0
free_mark_lem ws c f = f.blank 2 (omega arith) (omega arith)

module _ (ws : List ℕ) (head : Head ws) where
  pub free_positive : (c : ℕ) → FreeTested ws c → 0 < c
  free_positive c f = at (ℕ_discrete c 0)
    where
      at : Dec (c ≡ 0) → 0 < c
      at (yes e) = absurd (omega (arith, free_mark_lem ws c f, ap (mark_at ws) e, head.mark))
      at (no ne) = omega arith

  -- a chain that ends has one length
  chain_once : (n m c : ℕ) → chain_right ws n c ≡ true → chain_right ws m c ≡ true → n ≡ m
  chain_once zero zero c e f = refl
  chain_once zero (suc m) c e f = absurd (omega (arith, chain_end ws c e, free_positive c (chain_step ws m c f).0))
  chain_once (suc n) zero c e f = absurd (omega (arith, chain_end ws c f, free_positive c (chain_step ws n c e).0))
  chain_once (suc n) (suc m) c e f = ap suc (chain_once n m (word_at ws c 0) (chain_step ws n c e).1 (chain_step ws m c f).1)

  -- from each cell of the chain it has no more cells
  chain_shorter : (n c : ℕ) → chain_right ws n c ≡ true → All (λ x. (m : ℕ) × ((m ≤ n) × (chain_right ws m x ≡ true))) (chain_cells ws n c)
  unfolding chain_cells
  chain_shorter zero c e = tt
  chain_shorter (suc n) c e = (
    (suc n, (omega arith, e)),
    all_map (λ x t. (t.0, (let h = t.1.0 in omega arith, t.1.1))) (chain_cells ws n (word_at ws c 0))
        (chain_shorter n (word_at ws c 0) (chain_step ws n c e).1),
  )

  pub chain_distinct : (n c : ℕ) → chain_right ws n c ≡ true → Distinct (chain_cells ws n c)
  unfolding chain_cells
  chain_distinct zero c e = tt
  chain_distinct (suc n) c e =
      let more = (chain_step ws n c e).1 in (
        all_map (λ x t q. let h = t.1.0 in let k = chain_once (suc n) t.0 x (subst (λ z. chain_right ws (suc n) z ≡ true) q e) t.1.1 in omega arith)
            (chain_cells ws n (word_at ws c 0)) (chain_shorter n (word_at ws c 0) more),
        chain_distinct n (word_at ws c 0) more,
      )

-- word j of a free cell
leads_next : (ws free cs : List ℕ) → Follow free cs → Leads ws cs → All (λ c. word_at ws c 0 ≡ next_free c free) cs
leads_next ws free [] f l = tt
leads_next ws free (c ∷ cs) f l = (l.0 ∙ sym f.0, leads_next ws free cs f.1 l.1)

pub free_held : (ws : List ℕ) → Head ws → (n c : ℕ) → chain_right ws n c ≡ true → All (FreeHeld ws (chain_cells ws n c)) (chain_cells ws n c)
free_held ws head n c e =
    let free = chain_cells ws n c in
    all_zip (λ x f next. record { next = next; rest = f.blank }) free (chain_free ws n c e)
    (leads_next ws free free (distinct_follow free (chain_distinct ws head n c e)) (chain_leads ws n c e))
