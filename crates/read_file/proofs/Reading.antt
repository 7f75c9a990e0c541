-- Each way out of reading a file has the outcome of the definition, by what the bytes are read as; and the pairs of a file, put one after
-- the other.
use Rattle.std.specs.Prelude.{None, Some, Option}
use mathlib.Core.Path.{◌≡◌, refl, sym, ap, ◌∙◌, subst}
use mathlib.Core.Bool.{Bool, true, false, cond}
use mathlib.Core.List.{List, [], ◌∷◌, ◌++◌}
use Prim.Native.Nat.{ℕ, zero, suc, ◌+◌, ◌-◌, ◌≤◌, ◌<◌}
use native.Mathlib.Numerals.{add-one}
use native.Mathlib.Omega.{arith}
use lib.ListN.{length, drop, replicate}
use borrow.Author.Tests.{eq-eqb, ne_eqb}
use Rattle.settings.specs.Numbers.{base_of, length_of, most_dimensions, most_cells}
use Rattle.settings.specs.declared.Settings.{Settings}
use Rattle.settings.proofs.Numbers.{ranges}
use Rattle.lists.specs.Lists.{same}
use Rattle.lists.proofs.Same.{same_eq}
use Rattle.lists.proofs.Tests.{both}
use Rattle.files.specs.Files.{Pair, before, file_length, file_of, settings_in, pairs_from, pairs_in, keeps, is_file, contents_of}
use Rattle.files.proofs.Written.{file_length_lem}
use Rattle.files.proofs.Pairs.{pair_at, pairs_in_length, pairs_more}
use Rattle.files.proofs.Files.{keepable, tested, tested_table, pairs_behind}
use Rattle.meaning.specs.Picture.{picture}
use Rattle.answers.specs.Refusals.{answer, Meets}
use Rattle.meaning.specs.Operations.{set_up_out}
use Rattle.calls.specs.Saved.{file_lent, inserted_all, finished_all, read_in, read_out}
use Rattle.meaning.specs.Layer.Listed.{Listed}
use Rattle.calls.specs.Layer.ReadState.{nodes_from, read_state, last_key}
use Rattle.answers.specs.declared.Answer.{Answer}
use Rattle.meaning.proofs.Paths.Path.{path_head}
use Rattle.calls.proofs.Restarted.ReadState.{keeps_left}
use Rattle.calls.proofs.Restarted.ReadIn.{read_in_is}
use Rattle.paths.specs.declared.path.Path.{Path}
use Rattle.paths.specs.Paths.{path_of}
use Rattle.read_file.specs.Putting.{Putting, NextOfSome, PairPut}
use Rattle.read_file.proofs.Putting.{state_listed}

-- A file

-- bytes that are read as a file with settings s and n pairs
pub record Told (bytes : List ℕ) (s : Settings) (n : ℕ) : Type 0 where
  pub count : length (pairs_in bytes) ≡ n
  pub kept : keeps s (pairs_in bytes) ≡ true
  pub base : s.base ≡ base_of s.dimensions s.largest
  pub long : length bytes ≡ file_length n
  pub pairs : pairs_in bytes ≡ pairs_from n (drop (before n) bytes)

pub told : {bytes : List ℕ} {s : Settings} {n : ℕ} → contents_of bytes ≡ Some (s, n) → Told bytes s n
unfolding contents_of is_file
told {bytes} {s} {n} e = at (is_file bytes) refl e
  where
    own : settings_in bytes ≡ s → length (pairs_in bytes) ≡ n → is_file bytes ≡ true → Told bytes s n
    own same-settings count is =
        let t = both (keeps (settings_in bytes) (pairs_in bytes)) (same (file_of (settings_in bytes) (pairs_in bytes)) bytes) is in
        record {
          count = count;
          kept = ap (λ u. keeps u (pairs_in bytes)) (sym same-settings) ∙ t.0;
          base = subst (λ u. u.base ≡ base_of u.dimensions u.largest) same-settings refl;
          long =
              ap length (sym (same_eq (file_of (settings_in bytes) (pairs_in bytes)) bytes t.1))
              ∙ file_length_lem (settings_in bytes) (pairs_in bytes)
              ∙ ap file_length count;
          pairs =
              pairs_behind bytes (tested_table bytes (tested bytes is))
              ∙ ap (λ m. pairs_from m (drop (before m) bytes)) (sym (pairs_in_length bytes) ∙ count);
        }

    settings_said : Option (Settings × ℕ) → Settings
    settings_said (Some said) = said.0
    settings_said None = s

    number_said : Option (Settings × ℕ) → ℕ
    number_said (Some said) = said.1
    number_said None = n

    at : (t : Bool) → is_file bytes ≡ t → cond {A = Option (Settings × ℕ)} t (Some (settings_in bytes, length (pairs_in bytes))) None ≡ Some (s, n) → Told bytes s n
    at true is e = own (ap settings_said e) (ap number_said e) is
    at false is e = absurd (let z : ◌≡◌ {A = ℕ} 0 1 = cc in omega arith)

module _ {bytes : List ℕ} {s : Settings} {n : ℕ} (t : Told bytes s n) where
  -- its numbers keep the limits
  pub told_limits : (s.dimensions ≤ most_dimensions) × ((s.cells ≤ most_cells) × (n < s.cells))
  told_limits =
      let k = keepable s (pairs_in bytes) t.kept in
      let r = ranges s.dimensions s.largest s.cells k.ranges in
      (r.dimensions_most, (r.cells_most, omega (arith, k.room, t.count)))

  -- with no pair given there is a list
  none_kept : keeps s [] ≡ true
  none_kept = keeps_left s [] (pairs_in bytes) t.kept

  pub told_listed : {ws : List ℕ} → ws ≡ picture (read_state s []) → Listed ws s
  told_listed = state_listed [] none_kept t.base

  -- The first pairs

  abbrev pub first : ℕ → List Pair
  first i = pairs_from i (drop (before n) bytes)

  first_kept : (m i : ℕ) → i + m ≡ n → keeps s (first i) ≡ true
  first_kept zero i e = let here : i ≡ n = omega arith in ap (λ j. keeps s (first j)) here ∙ ap (keeps s) (sym t.pairs) ∙ t.kept
  first_kept (suc m) i e =
      keeps_left s (first i) (pair_at bytes (before n) i ∷ []) (ap (keeps s) (sym (pairs_more bytes (before n) i)) ∙ first_kept m (suc i) (omega arith))

  pub put_start :
      {ws : List ℕ} {path : Path} → ws ≡ picture (read_state s []) → path_of path ≡ replicate s.dimensions 0 → path.used ≡ s.dimensions →
      Putting ws s (first 0) 0 path
  unfolding pairs_from last_key nodes_from
  put_start e is used =
      record {
        words = e;
        kept = first_kept n 0 (omega arith);
        base = t.base;
        last_is = refl;
        path_is = is ∙ sym (path_head s.base s.dimensions []);
        used = used;
      }

  module _ {ws : List ℕ} {last : ℕ} {path : Path} {i : ℕ} (h : Putting ws s (first i) last path) where
    module _ (less : i < n) {key value : ℕ} (key_is : key ≡ (pair_at bytes (before n) i).key) (value-is : value ≡ (pair_at bytes (before n) i).value) where
      abbrev next : Pair
      next = record { key = key; value = value }

      one_more : first i ++ (next ∷ []) ≡ first (i + 1)
      one_more =
          ap (λ (p : Pair). first i ++ (p ∷ [])) (λ j. record { key = key_is j; value = value-is j })
          ∙ sym (pairs_more bytes (before n) i)
          ∙ ap first (sym (add-one i))

      more_kept : keeps s (first i ++ (next ∷ [])) ≡ true
      more_kept = ap (keeps s) one_more ∙ first_kept (n - (i + 1)) (i + 1) (omega arith)

      -- the next pair may be kept, ..
      pub put_asks : NextOfSome ws s last path next
      put_asks = record { pairs = first i; putting = h; more = more_kept }

      -- .. and is put
      pub put_more : {us : List ℕ} {r : Path} → PairPut ws us s last path r next → Putting us s (first (i + 1)) key r
      put_more {us} {r} p = subst (λ pairs. Putting us s pairs key r) one_more (p.is (first i) h more_kept)

    pub put_all : i ≤ n → n ≤ i → ws ≡ picture (read_state s (pairs_in bytes))
    put_all low high =
        let here : i ≡ n = omega arith in
        h.words ∙ ap (λ j. picture (read_state s (first j))) here ∙ ap (λ pairs. picture (read_state s pairs)) (sym t.pairs)

  -- Set up: the list that holds none
  pub set_up_left : (ws : List ℕ) {us : List ℕ} {r : Answer} → length ws ≡ length_of s.dimensions s.cells →
      Meets (set_up_out s.dimensions s.largest s.cells ws) r us → us ≡ picture (read_state s [])
  unfolding read_in inserted_all finished_all
  set_up_left ws long m = m.left ∙ read_in_is s [] ws none_kept t.base long

-- The ways out

module _ (ws bytes : List ℕ) {r : Answer} where
  pub bad_file_meets : contents_of bytes ≡ None → r ≡ answer 11 0 0 0 → Meets (read_out (file_lent ws bytes)) r (file_lent ws bytes)
  unfolding read_out
  bad_file_meets e a = rw e (record { answered = a; left = refl })

  module _ {s : Settings} {n : ℕ} (e : contents_of bytes ≡ Some (s, n)) where
    pub wrong_length_meets : (length ws ≡ length_of s.dimensions s.cells → ⊥) → r ≡ answer 2 0 0 0 →
        Meets (read_out (file_lent ws bytes)) r (file_lent ws bytes)
    unfolding read_out
    wrong_length_meets differ a = rw (e, ne_eqb (length ws) (length_of s.dimensions s.cells) differ) (record { answered = a; left = refl })

    pub read_meets : {us : List ℕ} → length ws ≡ length_of s.dimensions s.cells → us ≡ picture (read_state s (pairs_in bytes)) → r ≡ answer 0 0 0 n →
        Meets (read_out (file_lent ws bytes)) r (file_lent us bytes)
    unfolding read_out
    read_meets long is a =
        let k = told e in
        rw (e, eq-eqb (length ws) (length_of s.dimensions s.cells) long)
        (record { answered = a; left = ap (λ words. file_lent words bytes) (is ∙ sym (read_in_is s (pairs_in bytes) ws k.kept k.base long)) })
