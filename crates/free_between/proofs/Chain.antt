-- Cells that are chained through their value words before they are freed. Words that agree but for the value words of some cells agree
-- after any store in both, and are the same once those cells are free. The chain is there when they become free: links that are written
-- are no value words, and a cell that becomes free is no later one. So what is left is what is left with a list of the cells at hand.
use mathlib.Core.Path.{◌≡◌, refl, sym, ap, ap₂, ◌∙◌, subst}
use mathlib.Core.List.{List, [], ◌∷◌}
use Prim.Native.Nat.{ℕ, zero, suc, ◌+◌, ◌-◌, ◌≤◌, ◌<◌}
use native.Mathlib.Decide.{ℕ_discrete, dec_lt}
use native.Mathlib.Omega.{arith}
use lib.ListN.{length, get_or, set, replicate, length-set}
use lib.Seq.{sets, get_or-set_same, get_or-set_other, set_out, ext_get_or}
use Rattle.settings.specs.Numbers.{header_words, cell_words}
use Rattle.settings.specs.declared.Settings.{Settings}
use Rattle.lists.specs.Lists.{first_number}
use Rattle.lists.proofs.Occurrences.{Distinct}
use Rattle.lists.proofs.All.{All, all_map, all_each}
use Rattle.meaning.specs.Picture.{free_words, picture}
use Rattle.meaning.specs.Reading.{read}
use Rattle.meaning.specs.Words.{word_index, first_free_at, link_field}
use Rattle.meaning.specs.Operations.{swept}
use Rattle.meaning.specs.Layer.Paths.{onward}
use Rattle.meaning.specs.Layer.Stores.{store, write_path}
use Rattle.meaning.specs.Layer.SweepStores.{take_links, relink_head, free_cell, free_all, drop_front}
use Rattle.meaning.proofs.Cells.Stores.{Exact, word_in, index_apart, index_above, exact_set, store_same}
use Rattle.meaning.proofs.Written.SweepStores.{Dropping, exact_taken, take_links-other, exact_relinked, relink_head-cell}
use Rattle.meaning.proofs.Written.SweepStores.{exact_freed, free_cell-own, free_cell-cell}
use Rattle.words.proofs.Listed.{listed_shaped}
use Rattle.paths.specs.declared.path.Path.{Path}
use Rattle.paths.specs.Paths.{path_of, Onward}
use Rattle.free_between.specs.declared.Target.{Target}
use Rattle.free_between.specs.Between.{Droppable, zeros_of, freed_cells, chain_values, free_chained, ChainIn, CellsChained}
use Rattle.free_between.proofs.Drops.{drops}

-- Words that agree but for value words

-- every word is the same but word 1 of some cells
record Alike (D : ℕ) (cells us ws : List ℕ) : Type 0 where
  size : length us ≡ length ws
  same : (i : ℕ) → All (λ c. i ≡ word_index D c 1 → ⊥) cells → get_or us i 0 ≡ get_or ws i 0

-- a word that is not a value word
alike_word : {D : ℕ} {cells us ws : List ℕ} → Alike D cells us ws → (x j : ℕ) → j < cell_words D → (j ≡ 1 → ⊥) → word_in D us x j ≡ word_in D ws x j
alike_word {D} {cells} a x j h ne = a.same (word_index D x j) (all_each (λ c e. ne (index_apart D x c j 1 h (omega arith) e).1) cells)

-- header and path
alike_below : {D : ℕ} {cells us ws : List ℕ} → Alike D cells us ws → (i : ℕ) → i < header_words + D → get_or us i 0 ≡ get_or ws i 0
alike_below {D} {cells} a i h = a.same i (all_each (λ c e. index_above D c 1 i h e) cells)

-- the same store in both
alike_set : {D : ℕ} {cells us ws : List ℕ} → Alike D cells us ws → (i v : ℕ) → Alike D cells (set us i v) (set ws i v)
alike_set {D} {cells} {us} {ws} a i v = record {
  size = length-set us i v ∙ a.size ∙ sym (length-set ws i v);
  same = λ k h. at k h (ℕ_discrete k i) (dec_lt i (length us));
}
  where
    at : (k : ℕ) → All (λ c. k ≡ word_index D c 1 → ⊥) cells → Dec (k ≡ i) → Dec (i < length us) → get_or (set us i v) k 0 ≡ get_or (set ws i v) k 0
    at k h (yes e) (yes l) =
        let m = a.size in
        subst (λ n. get_or (set us i v) n 0 ≡ get_or (set ws i v) n 0) (sym e) (get_or-set_same us i v 0 l ∙ sym (get_or-set_same ws i v 0 (omega arith)))
    at k h (yes e) (no l) =
        let m = a.size in
        ap (λ l. get_or l k 0) (set_out us i v (omega arith)) ∙ a.same k h ∙ ap (λ l. get_or l k 0) (sym (set_out ws i v (omega arith)))
    at k h (no ne) inside = get_or-set_other us i k v 0 ne ∙ a.same k h ∙ sym (get_or-set_other ws i k v 0 ne)

alike_sets : {D : ℕ} {cells us ws : List ℕ} → Alike D cells us ws → (i : ℕ) (vs : List ℕ) → Alike D cells (sets us i vs) (sets ws i vs)
alike_sets a i [] = a
alike_sets a i (v ∷ vs) = alike_sets (alike_set a i v) (suc i) vs

-- The stores of a sweep in both

alike_taken : {D : ℕ} {cells us ws : List ℕ} → Alike D cells us ws → (x : ℕ) (path : List ℕ) (d k : ℕ) → d + k ≤ D →
    Alike D cells (take_links D us x path d k) (take_links D ws x path d k)
unfolding take_links
alike_taken a x path d zero h = a
alike_taken {D} {cells} {us} {ws} a x path d (suc k) h =
    alike_taken {us = store D us x (link_field d) (word_in D us (get_or path d 0) (link_field d))}
    {ws = store D ws x (link_field d) (word_in D ws (get_or path d 0) (link_field d))}
    (subst (λ v. Alike D cells (store D us x (link_field d) (word_in D us (get_or path d 0) (link_field d))) (store D ws x (link_field d) v))
    (alike_word a (get_or path d 0) (link_field d) (omega arith) (λ e. omega arith))
    (alike_set a (word_index D x (link_field d)) (word_in D us (get_or path d 0) (link_field d))))
    x path (suc d) k (omega arith)

alike_relinked : {D : ℕ} {cells us ws : List ℕ} → Alike D cells us ws → (x z : ℕ) → Alike D cells (relink_head D us x z) (relink_head D ws x z)
unfolding relink_head
alike_relinked {D} a x z = alike_sets a (word_index D 0 (link_field z)) (x ∷ replicate (D - suc z) 0)

alike_cell : {D : ℕ} {cells us ws : List ℕ} → Alike D cells us ws → (x : ℕ) → Alike D cells (free_cell D us x) (free_cell D ws x)
unfolding free_cell
alike_cell {D} {cells} {us} {ws} a x =
    alike_set (subst (λ v. Alike D cells (sets us (word_index D x 0) (free_words D (first_free_at us))) (sets ws (word_index D x 0) (free_words D v)))
    (alike_below a 4 (omega arith))
    (alike_sets a (word_index D x 0) (free_words D (first_free_at us)))) 4 x

-- a cell that becomes free has the same value word too
alike_freed : {D C x : ℕ} {cells us ws : List ℕ} → Exact D C us → Exact D C ws → x < C → Alike D (x ∷ cells) us ws →
    Alike D cells (free_cell D us x) (free_cell D ws x)
alike_freed {D} {C} {x} {cells} {us} {ws} u w h a = record { size = (alike_cell a x).size; same = λ i others. at i others (ℕ_discrete i (word_index D x 1)) }
  where
    at : (i : ℕ) → All (λ c. i ≡ word_index D c 1 → ⊥) cells → Dec (i ≡ word_index D x 1) → get_or (free_cell D us x) i 0 ≡ get_or (free_cell D ws x) i 0
    at i others (yes e) =
        subst (λ k. get_or (free_cell D us x) k 0 ≡ get_or (free_cell D ws x) k 0) (sym e)
        (free_cell-own u x h 1 (omega arith) ∙ ap (λ n. get_or (free_words D n) 1 0) (alike_below a 4 (omega arith)) ∙ sym (free_cell-own w x h 1 (omega arith)))
    at i others (no ne) = (alike_cell a x).same i (ne, others)

-- so once all are free, the words are the same
free_all-alike : {D C : ℕ} {us ws : List ℕ} → Exact D C us → Exact D C ws → (cells : List ℕ) → All (λ c. c < C) cells → Alike D cells us ws →
    free_all D us cells ≡ free_all D ws cells
unfolding free_all
free_all-alike {us = us} {ws = ws} u w [] below a = ext_get_or 0 us ws a.size (λ i h. a.same i tt)
free_all-alike {D} {C} {us} {ws} u w (x ∷ cells) below a =
    free_all-alike {us = free_cell D us x} {ws = free_cell D ws x} (exact_freed u x) (exact_freed w x) cells below.1 (alike_freed u w below.0 a)

-- The chain

exact_chained : {D C : ℕ} {ws : List ℕ} → Exact D C ws → (cells : List ℕ) → Exact D C (chain_values D ws cells)
unfolding chain_values
exact_chained exact [] = exact
exact_chained exact (x ∷ []) = exact
exact_chained {D} {C} {ws} exact (x ∷ y ∷ cells) = exact_chained {ws = store D ws x 1 y} (exact_set exact (word_index D x 1) y) (y ∷ cells)

-- only value words of those cells change
chain_alike : (D : ℕ) (ws cells : List ℕ) → Alike D cells (chain_values D ws cells) ws
unfolding chain_values
chain_alike D ws [] = record { size = refl; same = λ i h. refl }
chain_alike D ws (x ∷ []) = record { size = refl; same = λ i h. refl }
chain_alike D ws (x ∷ y ∷ cells) =
    let more = chain_alike D (store D ws x 1 y) (y ∷ cells) in
    record { size = more.size ∙ length-set ws (word_index D x 1) y; same = λ i h. more.same i h.1 ∙ get_or-set_other ws (word_index D x 1) i y 0 h.0 }

-- the value word of each cell but the last holds the next
abbrev Chained : ℕ → List ℕ → List ℕ → Type 0
Chained D ws [] = Unit {0}
Chained D ws (x ∷ []) = Unit {0}
Chained D ws (x ∷ y ∷ cells) = (word_in D ws x 1 ≡ y) × Chained D ws (y ∷ cells)

-- as long as those words stay
chained_same : (D : ℕ) (us ws cells : List ℕ) → All (λ c. word_in D us c 1 ≡ word_in D ws c 1) cells → Chained D ws cells → Chained D us cells
chained_same D us ws [] a chained = tt
chained_same D us ws (x ∷ []) a chained = tt
chained_same D us ws (x ∷ y ∷ cells) a chained = (a.0 ∙ chained.0, chained_same D us ws (y ∷ cells) a.1 chained.1)

chain_chained : {D C : ℕ} {ws : List ℕ} → Exact D C ws → (cells : List ℕ) → Distinct cells → All (λ c. c < C) cells → Chained D (chain_values D ws cells) cells
unfolding chain_values
chain_chained exact [] apart below = tt
chain_chained exact (x ∷ []) apart below = tt
chain_chained {D} {C} {ws} exact (x ∷ y ∷ cells) apart below = (
  (chain_alike D (store D ws x 1 y) (y ∷ cells)).same (word_index D x 1)
      (all_map (λ c ne e. ne (index_apart D x c 1 1 (omega arith) (omega arith) e).0) (y ∷ cells) apart.0)
      ∙ store_same exact x 1 y below.0 (omega arith),
  chain_chained {ws = store D ws x 1 y} (exact_set exact (word_index D x 1) y) (y ∷ cells) apart.1 below.1,
)

-- once the first is free, the others are still chained
chained_past : (D : ℕ) (ws : List ℕ) (x y : ℕ) (cells : List ℕ) → Distinct (x ∷ y ∷ cells) → Chained D ws (x ∷ y ∷ cells) →
    Chained D (free_cell D ws x) (y ∷ cells)
chained_past D ws x y cells apart chained =
    chained_same D (free_cell D ws x) ws (y ∷ cells)
    (all_map (λ c ne. free_cell-cell D ws x c 1 (omega arith) (λ e. ne (sym e))) (y ∷ cells) apart.0) chained.1

-- so chained cells are freed as a list of them is, ..
free_chained-is : (D : ℕ) (ws cells : List ℕ) → Distinct cells → Chained D ws cells → free_chained D ws (first_number cells) (length cells) ≡ free_all D ws cells
unfolding free_chained free_all
free_chained-is D ws [] apart chained = refl
free_chained-is D ws (x ∷ []) apart chained = refl
free_chained-is D ws (x ∷ y ∷ cells) apart chained =
    ap (λ next. free_chained D (free_cell D ws x) next (suc (length cells))) chained.0
    ∙ free_chained-is D (free_cell D ws x) (y ∷ cells) apart.1 (chained_past D ws x y cells apart chained)

-- .. and each of them is the list's when it becomes free
chained_in : (s : Settings) (ws cells : List ℕ) → Distinct cells → All (λ c. c < s.cells) cells → Chained s.dimensions ws cells →
    ChainIn s ws (first_number cells) (length cells)
chained_in s ws [] apart below chained = tt
chained_in s ws (x ∷ []) apart below chained = (below.0, tt)
chained_in s ws (x ∷ y ∷ cells) apart below chained =
    let D = s.dimensions in (
      below.0,
      subst (λ c. ChainIn s (free_cell D ws x) c (suc (length cells))) (sym chained.0)
          (chained_in s (free_cell D ws x) (y ∷ cells) apart.1 below.1 (chained_past D ws x y cells apart chained)),
    )

-- The front dropped, with the cells between the head and cell x chained

module _ {D C : ℕ} {ws : List ℕ} (exact : Exact D C ws) (path : List ℕ) {x number z : ℕ} {between : List ℕ} (f : Dropping D C x number z between)
  where
    abbrev taken_words : List ℕ
    taken_words = take_links D (chain_values D ws between) x path z (number - z)

    below : All (λ y. y < C) between
    below = all_map (λ y r. r.1) between f.range

    -- links are no value words
    stays_chained : Chained D (relink_head D taken_words x z) between
    stays_chained =
        let inside = f.inside in
        let least = f.least in
        chained_same D (relink_head D taken_words x z) (chain_values D ws between) between
        (all_map (λ c r.
        relink_head-cell D taken_words x z inside c 1 (omega arith) (λ e. let above = r.0 in omega arith)
        ∙ take_links-other D (chain_values D ws between) x path z (number - z) (omega arith) c 1 (omega arith) (λ e i l u g. omega arith)) between f.range)
        (chain_chained exact between f.distinct below)

    drops_chained :
        write_path (free_chained D (relink_head D taken_words x z) (first_number between) (length between)) (onward D (replicate D 0) z x)
        ≡ drop_front D ws x number path z between
    unfolding drop_front
    drops_chained =
        let inside = f.inside in
        let least = f.least in
        let chained = exact_chained exact between in
        ap (λ ts. write_path ts (onward D (replicate D 0) z x))
        (free_chained-is D (relink_head D taken_words x z) between f.distinct stays_chained
        ∙ free_all-alike (exact_relinked (exact_taken chained x path z (number - z)) x z) (exact_relinked (exact_taken exact x path z (number - z)) x z)
        between below
        (alike_relinked (alike_taken (chain_alike D ws between) x path z (number - z) (omega arith)) x z))

-- What may be dropped

module _ {ws : List ℕ} {s : Settings} {t : Target} (d : Droppable ws s t) {z first count : ℕ} {chained taken relinked : List ℕ}
    (zs : z ≡ zeros_of ws s t.cell) (chains : CellsChained ws s count chained × (first ≡ first_number (freed_cells ws)))
    (takes : taken ≡ take_links s.dimensions chained t.cell (path_of t.path) z (t.number - z))
    (relinks : relinked ≡ relink_head s.dimensions taken t.cell z) where
  exact_words : Exact s.dimensions s.cells ws
  exact_words = record { size = (listed_shaped d.paid.listed).long }

  pub chain_ready : ChainIn s relinked first count
  chain_ready =
      let path = path_of t.path in
      let drop = (drops d).dropping in
      rw (relinks, takes, chains.0.words, chains.1, chains.0.count, zs)
      (chained_in s (relink_head s.dimensions (taken_words exact_words path drop) t.cell (zeros_of ws s t.cell)) (freed_cells ws)
      drop.distinct (below exact_words path drop) (stays_chained exact_words path drop))

  pub front_dropped :
      {freed way left : List ℕ} → freed ≡ free_chained s.dimensions relinked first count →
      way ≡ onward s.dimensions (replicate s.dimensions 0) z t.cell → left ≡ write_path freed way → left ≡ picture (swept (read ws))
  front_dropped frees redraws writes =
      rw (writes, redraws, frees, relinks, takes, chains.0.words, chains.1, chains.0.count, zs)
      (drops_chained exact_words (path_of t.path) (drops d).dropping ∙ (drops d).words)

-- the path of a cell that hangs from the head by link z
pub head_redrawn :
    {D z x : ℕ} {head way : Path} → path_of head ≡ replicate D 0 → head.used ≡ D → Onward head z x way → path_of way ≡ onward D (replicate D 0) z x
head_redrawn {z = z} {x = x} is used o = o.way ∙ ap₂ (λ n p. onward n p z x) used is
