-- The class record, `classes` in code: for each class its live count, then its least live key. What a full reading of a list gives, and the question
-- about one class, which takes the record alone: The class record.
use Rattle.std.specs.Prelude.{Bool, cond, ◌||◌, ℕ, ◌+◌, ◌*◌, ◌/◌, eqb, leb, ltb, length, get_or}
use mathlib.Core.List.{List, [], ◌∷◌, map, flat_map}
use Rattle.lists.specs.Lists.{those, numbers_from, same}
use Rattle.entries.specs.Entries.{keys_per_class}
use Rattle.answers.specs.Refusals.{Outcome, accepted, refused}
use Rattle.answers.specs.declared.Refusal.TheVariants.{BadKey, BadClasses}
use Rattle.meaning.specs.Row.{Node}
use Rattle.meaning.specs.Reading.{read}

-- the class of a key, on every list
abbrev pub class_of : ℕ → ℕ
class_of key = key / keys_per_class

abbrev pub number_of_classes : ℕ
number_of_classes = 16

-- the record has two words for each class
abbrev pub record_words : ℕ
record_words = 32

-- the live keys of some standing cells, and those of a buffer, ascending
abbrev pub live_keys_in : List Node → List ℕ
live_keys_in row = map (λ x. x.key) (those (λ x. x.live) row)

abbrev pub live_keys : List ℕ → List ℕ
live_keys ws = live_keys_in (read ws).row

-- those of some keys that are of a class
abbrev pub keys_in : ℕ → List ℕ → List ℕ
keys_in class keys = those (λ key. eqb (class_of key) class) keys

-- the lesser of two keys, of which 0 is none
unfoldable pub lesser : ℕ → ℕ → ℕ
lesser one other = cond (eqb one 0) other (cond (eqb other 0 || leb one other) one other)

-- the least of some keys; 0 if there is none
unfoldable pub least_of : List ℕ → ℕ
least_of [] = 0
least_of (key ∷ keys) = lesser key (least_of keys)

-- the two words of a class: how many keys, and the least
abbrev pub class_words : List ℕ → List ℕ
class_words keys = length keys ∷ least_of keys ∷ []

-- the record of some keys: for each class from 0 to 15, in order
unfoldable pub classes_in : List ℕ → List ℕ
classes_in keys = flat_map (λ class. class_words (keys_in class keys)) (numbers_from 0 number_of_classes)

-- What a full reading gives.
abbrev pub classes_of : List ℕ → List ℕ
classes_of ws = classes_in (live_keys ws)

-- A record agrees with a list if it is what a full reading gives; so it has 32 words.
abbrev pub agrees : List ℕ → List ℕ → Bool
agrees ws classes = same classes (classes_of ws)

-- where the two words of a class stand
abbrev pub count_at : ℕ → ℕ
count_at class = class * 2

abbrev pub least_at : ℕ → ℕ
least_at class = class * 2 + 1

-- The question about one class: 15 if the record has another length, then 4 for a class above 15; else its key and its count as they stand.
unfoldable pub class_out : ℕ → List ℕ → Outcome (List ℕ)
class_out class classes =
    cond (eqb (length classes) record_words)
    (cond (ltb class number_of_classes)
    (accepted (get_or classes (least_at class) 0) 0 (get_or classes (count_at class) 0) classes)
    (refused BadKey classes))
    (refused BadClasses classes)
