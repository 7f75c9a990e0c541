-- The position and the path. The way down to a cell has, for each number d, the first cell that shares more than d coordinates with
-- it; from the number on that the cell was met by, that is the cell itself, and below it is as for the cell read before. Up to the position
-- the check counts the leading path words that are those of the way down, and at the position all D are. What is read up to it is dead.
use mathlib.Core.Path.{◌≡◌, refl, sym, ◌∙◌, ap, ap₂}
use mathlib.Core.Bool.{Bool, true, false, cond, ◌||◌, false≢true}
use mathlib.Core.Logic.{◌⊎◌, inl, inr}
use mathlib.Core.List.{List, [], ◌∷◌, map}
use Prim.Native.Nat.{ℕ, zero, suc, ◌+◌, ◌-◌, ◌≤◌, ◌<◌, min}
use native.Mathlib.Decide.{ℕ_discrete, dec_lt}
use native.Mathlib.Omega.{arith}
use lib.Dec.{eqb, ltb}
use lib.ListN.{get_or}
use borrow.Author.Tests.{lt-ltb, le-ltb, ltb-true, ltb-false, eqb-true, eqb-false, eq-eqb, ne_eqb}
use Rattle.settings.specs.Numbers.{header_words}
use Rattle.lists.specs.Lists.{occurrences}
use Rattle.lists.proofs.Occurrences.{occurrences_here, occurrences_past, occurs_has}
use Rattle.lists.proofs.All.{All, all_each, all_of_map, all_mapped}
use Rattle.meaning.specs.Keys.{shared}
use Rattle.meaning.specs.Row.{head_node}
use Rattle.meaning.specs.State.{key_of}
use Rattle.meaning.specs.Picture.{first_with}
use Rattle.meaning.specs.Words.{key_at, value_at, mark_at, dimensions_at, largest_at, base_at, position_at}
use Rattle.meaning.proofs.Rows.AscendingRow.{asc_above}
use Rattle.meaning.proofs.Rows.Keys.{shared_same, ultra}
use Rattle.meaning.proofs.Rows.Places.{key_of_has}
use Rattle.meaning.proofs.BothWays.ConverseRow.{node_in}
use Rattle.account.specs.declared.Seen.{Seen}
use Rattle.account.specs.Tree.{path_run, agreed_at, at_head}
use Rattle.account.proofs.AcceptedTests.{either, Head}
use Rattle.account.proofs.AcceptedRun.{Met, seen, seen_after, Trace}
use Rattle.account.proofs.AcceptedKeys.{row_in, Rising, row_asc}

-- Where the position is

-- cell c is one of those met
abbrev pub Occurs : List ℕ → ℕ → List Met → Type 0
Occurs ws c met = 0 < occurrences c (map (λ x. x.cell) (row_in ws met))

-- it is the first, or a later one
occurs_cases : (ws : List ℕ) (c : ℕ) (m : Met) (met : List Met) → Occurs ws c (m ∷ met) → (m.cell ≡ c) ⊎ ((m.cell ≡ c → ⊥) × Occurs ws c met)
occurs_cases ws c m met o = at (ℕ_discrete m.cell c)
  where
    at : Dec (m.cell ≡ c) → (m.cell ≡ c) ⊎ ((m.cell ≡ c → ⊥) × Occurs ws c met)
    at (yes e) = inl e
    at (no ne) = inr (ne, omega (arith, o, occurrences_past c m.cell (map (λ x. x.cell) (row_in ws met)) ne))

-- the position has been read: before, or it is one of those met
pub passed_occurs : (ws : List ℕ) (s : Seen) (met : List Met) → (seen_after ws s met).reached ≡ true → s.reached ≡ false → Occurs ws (position_at ws) met
unfolding seen_after
passed_occurs ws s [] e n = absurd (false≢true (sym n ∙ e))
passed_occurs ws s (m ∷ met) e n = at (eqb m.cell (position_at ws)) refl (passed_occurs ws (seen ws m s) met e)
  where
    rest : List ℕ
    rest = map (λ x. x.cell) (row_in ws met)

    at : (t : Bool) → eqb m.cell (position_at ws) ≡ t → ((s.reached || eqb m.cell (position_at ws)) ≡ false → Occurs ws (position_at ws) met) →
        Occurs ws (position_at ws) (m ∷ met)
    at true q more = omega (arith, occurrences_here (position_at ws) m.cell rest (eqb-true m.cell (position_at ws) q))
    at false q more =
        let later = more (ap (λ t. t || eqb m.cell (position_at ws)) n ∙ q) in
        omega (arith, occurrences_past (position_at ws) m.cell rest (eqb-false m.cell (position_at ws) q))

-- the key of a cell that is met is larger than that of the cell before
occurs_above : (ws : List ℕ) (x c : ℕ) (met : List Met) → Rising ws x met → Occurs ws c met → key_at ws x < key_at ws c
occurs_above ws x c met r o =
    let row = row_in ws met in
    occurs_has (λ y. key_at ws x < key_at ws y) c (map (λ y. y.cell) row) o
    (all_mapped (λ y. key_at ws x < key_at ws y) (λ y. y.cell) row
    (all_mapped (λ y. key_at ws x < key_at ws y.cell) (λ m. node_in ws m.cell) met
    (all_of_map (λ y. key_at ws x < y.key) (λ m. node_in ws m.cell) met (asc_above (key_at ws x) row (row_asc ws x met r)))))

-- and so the head is not one of those met
head_apart : (ws : List ℕ) {c : ℕ} (met : List Met) → Rising ws 0 met → Occurs ws c met → 0 ≡ c → ⊥
head_apart ws {c} met rises o q = omega (arith, occurs_above ws 0 c met rises o, ap (key_at ws) q)

-- Path words

-- the first `agreed` path words are those of a way down
abbrev Agreed : List ℕ → (ℕ → ℕ) → ℕ → Type 0
Agreed ws way agreed = (d : ℕ) → d < agreed → get_or ws (header_words + d) 0 ≡ way d

path_run_lem : (ws : List ℕ) (y d n i : ℕ) → d ≤ i → i < path_run ws y d n → get_or ws (header_words + i) 0 ≡ y
unfolding path_run
path_run_lem ws y d zero i h l = absurd (omega arith)
path_run_lem ws y d (suc n) i h l = at (eqb (get_or ws (header_words + d) 0) y) refl (ℕ_discrete d i) (path_run_lem ws y (suc d) n i) l
  where
    at : (t : Bool) → eqb (get_or ws (header_words + d) 0) y ≡ t → Dec (d ≡ i) → (suc d ≤ i → i < path_run ws y (suc d) n → get_or ws (header_words + i) 0 ≡ y) →
        i < cond t (path_run ws y (suc d) n) d → get_or ws (header_words + i) 0 ≡ y
    at true e (yes q) more k = ap (λ j. get_or ws (header_words + j) 0) (sym q) ∙ eqb-true (get_or ws (header_words + d) 0) y e
    at true e (no ne) more k = more (omega arith) k
    at false e q more k = absurd (omega arith)

-- the way down to y, met by link e: below e as for the cell read before, from e on y
abbrev way_on : (ℕ → ℕ) → ℕ → ℕ → ℕ → ℕ
way_on way y e d = cond (ltb d e) (way d) y

agreed_onward : (ws : List ℕ) (way : ℕ → ℕ) (y e agreed : ℕ) → Agreed ws way agreed → Agreed ws (way_on way y e) (agreed_at ws y e agreed)
unfolding agreed_at
agreed_onward ws way y e agreed a d l = at (ltb agreed e) refl l
  where
    at : (t : Bool) → ltb agreed e ≡ t → d < cond t agreed (path_run ws y e (dimensions_at ws - e)) → get_or ws (header_words + d) 0 ≡ way_on way y e d
    at true q k = rw (lt-ltb d e (let h = ltb-true agreed e q in omega arith)) (a d k)
    at false q k = go (dec_lt d e)
      where
        go : Dec (d < e) → get_or ws (header_words + d) 0 ≡ way_on way y e d
        go (yes h) = rw (lt-ltb d e h) (a d (let i = ltb-false agreed e q in omega arith))
        go (no h) = rw (le-ltb d e (omega arith)) (path_run_lem ws y e (dimensions_at ws - e) d (omega arith) k)

-- Path word d, the position being one of those met then: where it shares d coordinates or fewer with the cell read before, the word is of
-- those met then, else of that one's way down.
path_met : (ws : List ℕ) → 0 < base_at ws → (s : Seen) (met : List Met) (way : ℕ → ℕ) → Trace ws s met → Rising ws s.last met →
    s.reached ≡ false → Occurs ws (position_at ws) met →
    Agreed ws way s.agreed → (d : ℕ) → d < dimensions_at ws →
    get_or ws (header_words + d) 0 ≡ cond (ltb d (shared (base_at ws) (dimensions_at ws) (key_at ws s.last) (key_at ws (position_at ws)))) (way d)
    (first_with (base_at ws) (dimensions_at ws) (key_at ws (position_at ws)) (suc d) (row_in ws met))
unfolding first_with occurrences
path_met ws pos s [] way t r u o a d l = absurd (omega arith)
path_met ws pos s (m ∷ met) way t r u o a d l =
    at (occurs_cases ws (position_at ws) m met o) (λ n. path_met ws pos (seen ws m s) met (way_on way m.cell m.link_number) t.1 r.1
    (ap₂ ◌||◌ u (ne_eqb m.cell (position_at ws) n.0)) n.1 (rw u (agreed_onward ws way m.cell m.link_number s.agreed a)) d l)
  where
    b : ℕ
    b = base_at ws

    D : ℕ
    D = dimensions_at ws

    x : ℕ
    x = key_at ws s.last

    y : ℕ
    y = key_at ws m.cell

    k : ℕ
    k = key_at ws (position_at ws)

    word : ℕ
    word = get_or ws (header_words + d) 0

    later_first : ℕ
    later_first = first_with b D k (suc d) (row_in ws met)

    -- the position is a later one
    past : shared b D x y ≡ m.link_number → shared b D x k ≡ min (shared b D x y) (shared b D y k) →
        word ≡ cond (ltb d (shared b D y k)) (way_on way m.cell m.link_number d) later_first →
        word ≡ cond (ltb d (shared b D x k)) (way d) (cond (ltb (shared b D y k) (suc d)) later_first m.cell)
    past is u more = go (dec_lt d (shared b D y k)) (dec_lt d m.link_number)
      where
        go : Dec (d < shared b D y k) → Dec (d < m.link_number) → word
            ≡ cond (ltb d (shared b D x k)) (way d) (cond (ltb (shared b D y k) (suc d)) later_first m.cell)
        go (yes h) (yes i) =
            rw (lt-ltb d (shared b D x k) (omega arith)) (rw (lt-ltb d (shared b D y k) h, lt-ltb d m.link_number i) at more)
        go (yes h) (no i) =
            rw (le-ltb d (shared b D x k) (omega arith), le-ltb (shared b D y k) (suc d) (omega arith))
            (rw (lt-ltb d (shared b D y k) h, le-ltb d m.link_number (omega arith)) at more)
        go (no h) i =
            rw (le-ltb d (shared b D x k) (omega arith), lt-ltb (shared b D y k) (suc d) (omega arith)) (rw (le-ltb d (shared b D y k) (omega arith)) at more)

    at : (m.cell ≡ position_at ws) ⊎ ((m.cell ≡ position_at ws → ⊥) × Occurs ws (position_at ws) met) →
        ((m.cell ≡ position_at ws → ⊥) × Occurs ws (position_at ws) met →
        word ≡ cond (ltb d (shared b D y k)) (way_on way m.cell m.link_number d) later_first) →
        word ≡ cond (ltb d (shared b D x k)) (way d) (cond (ltb (shared b D y k) (suc d)) later_first m.cell)
    at (inl e) more =
        let q : k ≡ y = ap (key_at ws) (sym e) in
        let all : shared b D y k ≡ D = ap (shared b D y) q ∙ shared_same b D y in
        let link_number : shared b D x k ≡ m.link_number = ap (shared b D x) q ∙ r.0.1 in
        rw (le-ltb (shared b D y k) (suc d) (omega arith), link_number)
        (agreed_onward ws way m.cell m.link_number s.agreed a d (let n = t.0.path u e in omega arith))
    at (inr n) more =
        past r.0.1 (ultra b D x y k pos (let h = r.0.0 in omega arith)
        (let h = occurs_above ws m.cell (position_at ws) met r.1 n.1 in omega arith)) (more n)

-- the position is the head, or one of the cells met
pub position_met : (ws : List ℕ) (met : List Met) → (seen_after ws (at_head ws) met).reached ≡ true → (position_at ws ≡ 0) ⊎ Occurs ws (position_at ws) met
position_met ws met e = at (eqb (position_at ws) 0) refl
  where
    at : (t : Bool) → eqb (position_at ws) 0 ≡ t → (position_at ws ≡ 0) ⊎ Occurs ws (position_at ws) met
    at true q = inl (eqb-true (position_at ws) 0 q)
    at false q = inr (passed_occurs ws (at_head ws) met e (unfold at_head in q))

-- path word d is the first cell, the head's first, that shares more than d coordinates with the position
pub path_right_lem : (ws : List ℕ) → 0 < base_at ws → Head ws → (met : List Met) → Trace ws (at_head ws) met → Rising ws 0 met → (at_head ws).right ≡ true →
    (position_at ws ≡ 0) ⊎ Occurs ws (position_at ws) met → (d : ℕ) → d < dimensions_at ws →
    get_or ws (header_words + d) 0 ≡ first_with (base_at ws) (dimensions_at ws) (key_at ws (position_at ws)) (suc d) (head_node ∷ row_in ws met)
unfolding first_with at_head
path_right_lem ws pos head met trace rises right (inl q) d l =
    let b = base_at ws in
    let D = dimensions_at ws in
    let k : key_at ws (position_at ws) ≡ 0 = ap (key_at ws) q ∙ head.key in
    let all : shared b D 0 (key_at ws (position_at ws)) ≡ D = ap (shared b D 0) k ∙ shared_same b D 0 in
    let agreed : path_run ws 0 0 D ≡ D = eqb-true (path_run ws 0 0 D) D (rw (eq-eqb (position_at ws) 0 q) at right) in
    rw (le-ltb (shared b D 0 (key_at ws (position_at ws))) (suc d) (omega arith)) (path_run_lem ws 0 0 D d (omega arith) (omega arith))
path_right_lem ws pos head met trace rises right (inr o) d l =
    path_met ws pos (at_head ws) met (λ i. 0) trace rises (ne_eqb (position_at ws) 0 (λ q. head_apart ws met rises o (sym q))) o
    (λ i k. path_run_lem ws 0 0 (dimensions_at ws) i (omega arith) k) d l ∙ at (dec_lt d (shared b D 0 k))
  where
    b : ℕ
    b = base_at ws

    D : ℕ
    D = dimensions_at ws

    k : ℕ
    k = key_at ws (position_at ws)

    rest : ℕ
    rest = first_with b D k (suc d) (row_in ws met)

    at : Dec (d < shared b D 0 k) → cond (ltb d (shared b D (key_at ws 0) k)) 0 rest ≡ cond (ltb (shared b D 0 k) (suc d)) rest 0
    at (yes h) = rw (head.key, lt-ltb d (shared b D 0 k) h, le-ltb (shared b D 0 k) (suc d) (omega arith)) refl
    at (no h) = rw (head.key, le-ltb d (shared b D 0 k) (omega arith), lt-ltb (shared b D 0 k) (suc d) (omega arith)) refl

-- the key of the position, looked up in the row
key_met : (ws : List ℕ) (c : ℕ) (met : List Met) → Occurs ws c met → key_of c (row_in ws met) ≡ key_at ws c
key_met ws c met o =
    key_of_has (λ key. key ≡ key_at ws c) c (row_in ws met) o
    (all_mapped (λ x. x.cell ≡ c → x.key ≡ key_at ws c) (λ m. node_in ws m.cell) met (all_each (λ m e. ap (key_at ws) e) met))

pub position_key_lem : (ws : List ℕ) → Head ws → (met : List Met) → Rising ws 0 met → (position_at ws ≡ 0) ⊎ Occurs ws (position_at ws) met →
    key_of (position_at ws) (head_node ∷ row_in ws met) ≡ key_at ws (position_at ws)
unfolding key_of
position_key_lem ws head met rises (inl q) = rw (eq-eqb 0 (position_at ws) (sym q)) (sym (ap (key_at ws) q ∙ head.key))
position_key_lem ws head met rises (inr o) =
    rw (ne_eqb 0 (position_at ws) (head_apart ws met rises o)) (key_met ws (position_at ws) met o)

-- Marks

-- a cell read up to the position is dead
pub dead_met : (ws : List ℕ) (s : Seen) (met : List Met) → Trace ws s met → Rising ws s.last met →
    (s.reached ≡ true → key_at ws (position_at ws) ≤ key_at ws s.last) →
    All (λ x. x.key ≤ key_at ws (position_at ws) → x.live ≡ false) (row_in ws met)
dead_met ws s [] t r reached = tt
dead_met ws s (m ∷ met) t r reached = (
  at t.0.node,
  dead_met ws (seen ws m s) met t.1 r.1 (λ e. later (either s.reached (eqb m.cell (position_at ws)) e)),
)
  where
    at : ((mark_at ws m.cell ≡ 2) × (value_at ws m.cell ≡ 0)) ⊎ ((mark_at ws m.cell ≡ 1) × (s.reached ≡ true)) →
        key_at ws m.cell ≤ key_at ws (position_at ws) → eqb (mark_at ws m.cell) 1 ≡ false
    at (inl d) h = ap (λ n. eqb n 1) d.0
    at (inr l) h = absurd (let k = reached l.1 in let i = r.0.0 in omega arith)

    later : (s.reached ≡ true) ⊎ (eqb m.cell (position_at ws) ≡ true) → key_at ws (position_at ws) ≤ key_at ws m.cell
    later (inl e) = let k = reached e in let i = r.0.0 in omega arith
    later (inr e) = omega (arith, ap (key_at ws) (eqb-true m.cell (position_at ws) e))

-- a dead cell's value is 0
pub values_met : (ws : List ℕ) (s : Seen) (met : List Met) → Trace ws s met → All (λ x. x.live ≡ false → x.value ≡ 0) (row_in ws met)
values_met ws s [] t = tt
values_met ws s (m ∷ met) t = (at t.0.node, values_met ws (seen ws m s) met t.1)
  where
    at : ((mark_at ws m.cell ≡ 2) × (value_at ws m.cell ≡ 0)) ⊎ ((mark_at ws m.cell ≡ 1) × (s.reached ≡ true)) →
        eqb (mark_at ws m.cell) 1 ≡ false → value_at ws m.cell ≡ 0
    at (inl d) h = d.1
    at (inr l) h = absurd (false≢true (sym h ∙ ap (λ n. eqb n 1) l.0))

pub keys_met : (ws : List ℕ) (s : Seen) (met : List Met) → Trace ws s met → All (λ x. x.key ≤ largest_at ws) (row_in ws met)
keys_met ws s [] t = tt
keys_met ws s (m ∷ met) t = (t.0.key, keys_met ws (seen ws m s) met t.1)
