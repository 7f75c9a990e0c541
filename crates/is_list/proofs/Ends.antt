-- Where the check starts and ends, as the code has it: the header, the head, the chain of free cells, and the answer.
use Rattle.std.specs.Prelude.{None, Option, Some}
use mathlib.Core.Path.{◌≡◌, refl, sym, ap, ◌∙◌}
use mathlib.Core.Bool.{Bool, true, false, cond, ◌&&◌, not, and-false, false≢true}
use mathlib.Core.List.{List, []}
use Prim.Native.Nat.{ℕ, zero, suc, ◌+◌, ◌-◌, ◌^◌, ◌≤◌, ◌<◌}
use Rattle.settings.proofs.Numbers.{base_power_fits}
use native.Mathlib.Nat.{sub-zero}
use native.Mathlib.Omega.{arith}
use lib.Dec.{eqb}
use lib.ListN.{length}
use borrow.Author.Tests.{not-true, eq-eqb, ne_eqb}
use Rattle.settings.specs.Numbers.{length_of, in_range}
use Rattle.settings.specs.Base.{is_base}
use Rattle.settings.specs.declared.Settings.{Settings}
use Rattle.lists.proofs.Tests.{both, and_both}
use Rattle.meaning.specs.Words.{word_at, owed_at, low_at, high_at, dimensions_at, largest_at, cells_at, base_at, position_at, first_free_at}
use Rattle.meaning.specs.Reading.{settings_at, is_list}
use Rattle.words.specs.Shaped.{Shaped}
use Rattle.words.proofs.Shaped.{shaped_dimensions, shaped_cells}
use Rattle.account.specs.declared.Seen.{Seen}
use Rattle.account.specs.Tree.{path_run, all_from, links_below, debt_right, head_right, at_head, free_right, chain_right, header_right, seen_all, accepts}
use Rattle.account.specs.Pending.{put_from}
use Rattle.account.specs.Loop.{left_over}
use Rattle.account.proofs.AcceptedTests.{header_right_lem, head_right_lem}
use Rattle.account.proofs.Following.{head_followed}
use Rattle.account.proofs.Tree.{accepts_is_list}
use Rattle.is_list.specs.Standing.{header_of}
use Rattle.cell_tests.proofs.Tests.{refuted}

-- The head

module _ {ws : List ℕ} {s : Settings} (h : Shaped ws s) {agreed : ℕ} (run : agreed ≡ path_run ws 0 0 (s.dimensions - 0)) where
  pub head_elsewhere :
      (position_at ws ≡ 0 → ⊥) → record { right = true; left = s.cells - 1; last = 0; agreed = agreed; reached = false } ≡ at_head ws
  unfolding at_head
  head_elsewhere away = rw (ne_eqb (position_at ws) 0 away, run, sub-zero s.dimensions, ← shaped_dimensions h, ← shaped_cells h) refl

  pub head_position :
      position_at ws ≡ 0 →
      record { right = eqb agreed s.dimensions; left = s.cells - 1; last = 0; agreed = agreed; reached = true } ≡ at_head ws
  unfolding at_head
  head_position here = rw (eq-eqb (position_at ws) 0 here, run, sub-zero s.dimensions, ← shaped_dimensions h, ← shaped_cells h) refl

-- The free cells

module _ (ws : List ℕ) (c : ℕ) {i n : ℕ} where
  pub chain_more : {next : ℕ} → i < n → free_right ws c ≡ true → next ≡ word_at ws c 0 → chain_right ws (n - i) c ≡ chain_right ws (n - (i + 1)) next
  unfolding chain_right
  chain_more h free e =
      let k : n - i ≡ suc (n - (i + 1)) = omega arith in
      rw (k, free, e) refl

  pub chain_broken : i < n → free_right ws c ≡ false → chain_right ws (n - i) c ≡ false
  unfolding chain_right
  chain_broken h broken =
      let k : n - i ≡ suc (n - (i + 1)) = omega arith in
      rw (k, broken) refl

  pub chain_end : n ≤ i → chain_right ws (n - i) c ≡ eqb c 0
  unfolding chain_right
  chain_end h =
      let k : n - i ≡ 0 = omega arith in
      rw k refl

-- .. as the loop over the chain goes
pub ruleset chain_turns = (chain_more, chain_broken, chain_end)

-- The header

-- the three tests of the header
pub header_is :
    (ws : List ℕ) →
    header_right ws
    ≡ (in_range (dimensions_at ws) (largest_at ws) (cells_at ws)
    && (eqb (length ws) (length_of (dimensions_at ws) (cells_at ws)) && is_base (dimensions_at ws) (largest_at ws) (base_at ws)))
unfolding header_right is_base
header_is ws = refl

module _ (ws : List ℕ) where
  pub header_short : length ws < 5 → None ≡ header_of ws
  header_short h = rw (refuted (header_right ws) (λ t. let e = (header_right_lem ws t).size in omega arith)) refl

  pub header_range :
      {t : Bool} → t ≡ in_range (dimensions_at ws) (largest_at ws) (cells_at ws) → not t ≡ true → None ≡ header_of ws
  header_range {t} e f = rw (header_is ws, ← e, not-true t f) refl

  pub header_length : (length ws ≡ length_of (dimensions_at ws) (cells_at ws) → ⊥) → None ≡ header_of ws
  header_length other = rw (refuted (header_right ws) (λ t. other (header_right_lem ws t).size)) refl

  pub header_base : {t : Bool} → t ≡ is_base (dimensions_at ws) (largest_at ws) (base_at ws) → not t ≡ true → None ≡ header_of ws
  header_base {t} e f = simp (header_is ws, sym e, not-true t f, and-false) refl

  pub header_list :
      in_range (dimensions_at ws) (largest_at ws) (cells_at ws) ≡ true → length ws ≡ length_of (dimensions_at ws) (cells_at ws) →
      is_base (dimensions_at ws) (largest_at ws) (base_at ws) ≡ true → Some (settings_at ws) ≡ header_of ws
  header_list range size base = rw (header_is ws, range, eq-eqb (length ws) (length_of (dimensions_at ws) (cells_at ws)) size, base) refl

-- words whose header is that of a list with the settings s
pub record Headed (ws : List ℕ) (s : Settings) : Type 0 where
  pub right : header_right ws ≡ true
  pub shaped : Shaped ws s
  pub base : 0 < s.base
  pub power : s.base ^ s.dimensions < 2 ^ 64
  pub cells : 0 < s.cells

pub headed : {ws : List ℕ} {s : Settings} {r : Option Settings} → r ≡ header_of ws → r ≡ Some s → Headed ws s
headed {ws} {s} p q = at (header_right ws) refl (sym p ∙ q)
  where
    at : (t : Bool) → header_right ws ≡ t → cond t (Some (settings_at ws)) None ≡ Some s → Headed ws s
    at true e f =
        let h = header_right_lem ws e in
        let k : settings_at ws ≡ s = cc in
        rw (← k)
        (record {
          right = e;
          shaped =
              record {
                header = refl;
                long = h.size;
                dimensions_least = h.in_range.dimensions_least;
                dimensions_most = h.in_range.dimensions_most;
                cells_most = h.in_range.cells_most;
              };
          base = h.positive;
          power = base_power_fits h.in_range.dimensions_most h.in_range.largest_most h.in_range.largest_least h.base;
          cells = omega (arith, h.in_range.cells_least);
        })
    at false e f = absurd (let z : ◌≡◌ {A = ℕ} 0 1 = cc in omega arith)

pub not_headed : (ws : List ℕ) {r : Option Settings} → r ≡ header_of ws → r ≡ None → header_right ws ≡ true → ⊥
not_headed ws p q e = let z : ◌≡◌ {A = ℕ} 0 1 = cc in omega arith

-- The answer

-- the tests behind the header
pub record Accepts (ws : List ℕ) : Type 0 where
  pub header : header_right ws ≡ true
  pub head : head_right ws ≡ true
  pub start : (at_head ws).right ≡ true
  pub right : (seen_all ws).right ≡ true
  pub reached : (seen_all ws).reached ≡ true
  pub chain : chain_right ws (seen_all ws).left (first_free_at ws) ≡ true

accepted : (ws : List ℕ) → accepts ws ≡ true → Accepts ws
unfolding accepts
accepted ws e = at (header_right ws) refl e
  where
    tests : Bool
    tests =
        head_right ws
        && (((at_head ws).right && (seen_all ws).right) && ((seen_all ws).reached && chain_right ws (seen_all ws).left (first_free_at ws)))

    at : (t : Bool) → header_right ws ≡ t → elim t [ true ↦ tests | false ↦ false ] ≡ true → Accepts ws
    at true h e =
        let chain = chain_right ws (seen_all ws).left (first_free_at ws) in
        let t = both (head_right ws) (((at_head ws).right && (seen_all ws).right) && ((seen_all ws).reached && chain)) e in
        let u = both ((at_head ws).right && (seen_all ws).right) ((seen_all ws).reached && chain) t.1 in
        let v = both (at_head ws).right (seen_all ws).right u.0 in
        let w = both (seen_all ws).reached chain u.1 in
        record { header = h; head = t.0; start = v.0; right = v.1; reached = w.0; chain = w.1 }
    at false h e = absurd (false≢true e)

accepts_all : (ws : List ℕ) → Accepts ws → accepts ws ≡ true
unfolding accepts
accepts_all ws a =
    let chain = chain_right ws (seen_all ws).left (first_free_at ws) in
    let right = and_both (at_head ws).right (seen_all ws).right a.start a.right in
    let ends = and_both (seen_all ws).reached chain a.reached a.chain in
    rw (a.header, accepts)
    (and_both (head_right ws) (((at_head ws).right && (seen_all ws).right) && ((seen_all ws).reached && chain)) a.head
    (and_both ((at_head ws).right && (seen_all ws).right) ((seen_all ws).reached && chain) right ends))

pub refuse : (ws : List ℕ) → (Accepts ws → ⊥) → false ≡ is_list ws
refuse ws never = rw (← accepts_is_list ws) (sym (refuted (accepts ws) (λ t. never (accepted ws t))))

-- past the other tests the chain of free cells decides
pub chain_decides :
    (ws : List ℕ) {t : Bool} → header_right ws ≡ true → head_right ws ≡ true → (at_head ws).right ≡ true → (seen_all ws).right ≡ true →
    (seen_all ws).reached ≡ true → t ≡ chain_right ws (seen_all ws).left (first_free_at ws) → t ≡ is_list ws
chain_decides ws {t} header head start right reached e = at t e
  where
    at : (u : Bool) → u ≡ chain_right ws (seen_all ws).left (first_free_at ws) → u ≡ is_list ws
    at true e =
        sym (accepts_all ws (record { header = header; head = head; start = start; right = right; reached = reached; chain = sym e })) ∙ accepts_is_list ws
    at false e = refuse ws (λ a. false≢true (e ∙ a.chain))

pub head_last : (ws : List ℕ) {start : Seen} → start ≡ at_head ws → start.last ≡ 0
unfolding at_head
head_last ws p = ap (λ (t : Seen). t.last) p

starts : (ws : List ℕ) {start : Seen} → start ≡ at_head ws → start.left ≡ cells_at ws - 1
unfolding at_head
starts ws p = ap (λ (t : Seen). t.left) p

pub all_seen : {ws : List ℕ} {s : Settings} {start : Seen} → Headed ws s → head_right ws ≡ true → start ≡ at_head ws → start.right ≡ true →
    left_over ws 0 0 0 0 [] start ≡ seen_all ws
unfolding links_below all_from debt_right put_from
all_seen {ws} {s} h head p right =
    let k = head_right_lem ws head in
    rw (p, eq-eqb (owed_at ws 0) 0 k.owed, eq-eqb (low_at ws 0) 0 k.low, eq-eqb (high_at ws 0) 0 k.high)
    (head_followed ws (rw p at right) (omega (arith, shaped_cells h.shaped, h.cells, starts ws refl)))
