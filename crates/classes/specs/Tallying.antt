-- What the one pass over the cells does to the words of the record, cell by cell.
use Rattle.std.specs.Prelude.{◌≡◌, cond, List, ℕ, suc, ◌<◌, eqb, length, get_or, set}
use Rattle.meaning.specs.Words.{key_at, mark_at, live_mark}
use Rattle.classes.specs.Classes.{class_of, number_of_classes, record_words, lesser, count_at, least_at}

-- a key more in the two words of a class
unfoldable pub with_key_in : ℕ → ℕ → List ℕ → List ℕ
with_key_in class key classes =
    set (set classes (count_at class) (suc (get_or classes (count_at class) 0))) (least_at class) (lesser key (get_or classes (least_at class) 0))

abbrev pub with_key : ℕ → List ℕ → List ℕ
with_key key classes = with_key_in (class_of key) key classes

-- .. where a cell is live, its key
abbrev pub with_cell : List ℕ → ℕ → List ℕ → List ℕ
with_cell ws x classes = cond (eqb (mark_at ws x) live_mark) (with_key (key_at ws x) classes) classes

-- words of a record in which each count has room for one more
pub record Roomy (classes : List ℕ) : Type 0 where
  pub long : length classes ≡ record_words
  pub room : (class : ℕ) → class < number_of_classes → get_or classes (count_at class) 0 < 4294967295
