-- What the calls write, word by word: the layer between the meaning and the code. Each function takes the words as they stand to the
-- words afterwards; D is the number of dimensions.
use Rattle.std.specs.Prelude.{cond, List, [], ◌∷◌, ℕ, zero, suc, ◌-◌, eqb, get_or, set, replicate}
use Rattle.std.proofs.lemmas.List.Edits.{sets}
use Rattle.settings.specs.Numbers.{header_words}
use Rattle.meaning.specs.Words.{word_index, owed_at, low_at, high_at, link_field}
use Rattle.meaning.specs.Operations.{slot_owes}
use Rattle.meaning.specs.declared.Slot.{Slot}

-- word j of cell x becomes v
abbrev pub store : ℕ → List ℕ → ℕ → ℕ → ℕ → List ℕ
store D ws x j v = set ws (word_index D x j) v

-- k links from number d on move from cell c to cell n, and 0 stands in their place in c: Debts 5
unfoldable pub move_links : ℕ → List ℕ → ℕ → ℕ → ℕ → ℕ → List ℕ
move_links D ws n c d zero = ws
move_links D ws n c d (suc k) =
    move_links D (store D (store D ws n (link_field d) (get_or ws (word_index D c (link_field d)) 0)) c (link_field d) 0) n c (suc d) k

-- .. and owed, low and high of cell n become 0
abbrev pub clear_debt : ℕ → List ℕ → ℕ → List ℕ
clear_debt D ws n = sets ws (word_index D n 3) (0 ∷ 0 ∷ 0 ∷ [])

-- what cell n owes is finished
unfoldable pub finish_words : ℕ → List ℕ → ℕ → List ℕ
finish_words D ws n =
    cond (eqb (owed_at ws n) 0) ws (clear_debt D (move_links D ws n (owed_at ws n) (low_at ws n) (high_at ws n - low_at ws n)) n)

-- the D words of path
abbrev pub write_path : List ℕ → List ℕ → List ℕ
write_path ws path = sets ws header_words path

-- a standing cell's value and mark
abbrev pub write_node : ℕ → List ℕ → ℕ → ℕ → ℕ → List ℕ
write_node D ws x value mark = sets ws (word_index D x 1) (value ∷ mark ∷ [])

-- the links of a new cell: link q leads to c where there is a c, every other link is 0
abbrev pub new_links : ℕ → ℕ → ℕ → List ℕ
new_links D q c = cond (eqb c 0) (replicate D 0) (set (replicate D 0) q c)

-- the words of a new cell: live, link q to c where there is a c, every other link 0; its debt if it owes
unfoldable pub new_words : ℕ → ℕ → ℕ → Slot → List ℕ
new_words D key value t =
    key ∷ value ∷ 1 ∷ cond (slot_owes t) t.c 0 ∷ cond (slot_owes t) t.p 0 ∷ cond (slot_owes t) t.q 0
    ∷ new_links D t.q t.c

-- what the parent owes is finished, then what c owes, where there is a c: The operations 2
abbrev pub paid_words : ℕ → List ℕ → ℕ → ℕ → List ℕ
paid_words D ws parent c = cond (eqb c 0) (finish_words D ws parent) (finish_words D (finish_words D ws parent) c)

-- the first free cell is taken off its chain and written, and link p of the parent set to it
abbrev pub hung_words : ℕ → List ℕ → ℕ → ℕ → Slot → List ℕ
hung_words D ws key value t =
    let off = set ws 4 (get_or ws (word_index D t.n 0) 0) in
    store D (sets off (word_index D t.n 0) (new_words D key value t)) t.parent (link_field t.p) t.n

-- An insert of a key that does not stand, but for the path: the parent's debt and then c's finished, and the new cell hung from the parent.
unfoldable pub insert_words : ℕ → List ℕ → ℕ → ℕ → Slot → List ℕ
insert_words D ws key value t = hung_words D (paid_words D ws t.parent t.c) key value t
