-- What a sweep writes, word by word, in the order in which it is written: the layer between the meaning and the code. Each function takes
-- the words as they stand to the words afterwards; D is the number of dimensions.
use Rattle.std.specs.Prelude.{List, [], ◌∷◌, ℕ, zero, suc, ◌-◌, get_or, set, replicate}
use Rattle.std.proofs.lemmas.List.Edits.{sets}
use Rattle.meaning.specs.Picture.{free_words}
use Rattle.meaning.specs.Words.{word_index, first_free_at, link_field}
use Rattle.meaning.specs.Layer.Paths.{onward}
use Rattle.meaning.specs.Layer.Stores.{store, finish_words, write_path}

-- what n cells from x on owe is finished, one cell after the other
unfoldable pub finish_all : ℕ → List ℕ → ℕ → ℕ → List ℕ
finish_all D ws x zero = ws
finish_all D ws x (suc n) = finish_all D (finish_words D ws x) (suc x) n

-- the new position's links in the settled shape: k links of cell x from number d on become those of the cells on a path, link d that of
-- word d.
unfoldable pub take_links : ℕ → List ℕ → ℕ → List ℕ → ℕ → ℕ → List ℕ
take_links D ws x path d zero = ws
take_links D ws x path d (suc k) =
    take_links D (store D ws x (link_field d) (get_or ws (word_index D (get_or path d 0) (link_field d)) 0)) x path (suc d) k

-- .. and the head's link z leads to cell x, its higher links nowhere.
unfoldable pub relink_head : ℕ → List ℕ → ℕ → ℕ → List ℕ
relink_head D ws x z = sets ws (word_index D 0 (link_field z)) (x ∷ replicate (D - suc z) 0)

-- cell x comes to the front of the free chain: its first word holds the first free cell, its other words are 0, and word 4 holds x
unfoldable pub free_cell : ℕ → List ℕ → ℕ → List ℕ
free_cell D ws x = set (sets ws (word_index D x 0) (free_words D (first_free_at ws))) 4 x

-- cells come to the front of the free chain, one after the other
unfoldable pub free_all : ℕ → List ℕ → List ℕ → List ℕ
free_all D ws [] = ws
free_all D ws (x ∷ xs) = free_all D (free_cell D ws x) xs

-- The operations 6: the front is dropped. The new position is cell x, reached by link `number`, with its path; it shares z coordinates with
-- the head; `between` are the cells to free.
unfoldable pub drop_front : ℕ → List ℕ → ℕ → ℕ → List ℕ → ℕ → List ℕ → List ℕ
drop_front D ws x number path z between =
    let relinked = relink_head D (take_links D ws x path z (number - z)) x z in
    write_path (free_all D relinked between) (onward D (replicate D 0) z x)
