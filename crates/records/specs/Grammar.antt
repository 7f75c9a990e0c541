-- The grammar of a record, by RFC 4180, section 2: which bytes write which fields. A rule of the RFC is a constructor.
use Rattle.std.specs.Prelude.{◌≡◌, Bool, true, ◌&&◌, ◌||◌, not, List, [], ◌∷◌, ◌++◌, ℕ, eqb, leb}
use Rattle.text.specs.Lines.{line_feed}

abbrev pub comma : ℕ
comma = 44

abbrev pub quote : ℕ
quote = 34

abbrev pub carriage_return : ℕ
carriage_return = 13

-- TEXTDATA: the bytes 32 to 126, but for the comma and the quote
unfoldable pub is_text : ℕ → Bool
is_text byte = leb 32 byte && leb byte 126 && not (eqb byte comma) && not (eqb byte quote)

-- the bytes that stand for themselves between quotes: TEXTDATA, COMMA, CR, LF
abbrev pub stands_in_quotes : ℕ → Bool
stands_in_quotes byte = is_text byte || eqb byte comma || eqb byte carriage_return || eqb byte line_feed

-- non_escaped = *TEXTDATA
pub data Plain : List ℕ → Type 0 where
  no_text : Plain []
  text : {byte : ℕ} {bytes : List ℕ} → is_text byte ≡ true → Plain bytes → Plain (byte ∷ bytes)

-- *(TEXTDATA / COMMA / CR / LF / 2DQUOTE): what stands between quotes, and what it says
pub data Quoted : List ℕ → List ℕ → Type 0 where
  nothing : Quoted [] []
  itself : {byte : ℕ} {bytes value : List ℕ} → stands_in_quotes byte ≡ true → Quoted bytes value → Quoted (byte ∷ bytes) (byte ∷ value)
  two_quotes : {bytes value : List ℕ} → Quoted bytes value → Quoted (quote ∷ quote ∷ bytes) (quote ∷ value)

-- field = escaped / non_escaped; escaped = DQUOTE *(..) DQUOTE
pub data Field : List ℕ → List ℕ → Type 0 where
  escaped : {bytes value : List ℕ} → Quoted bytes value → Field (quote ∷ (bytes ++ (quote ∷ []))) value
  non_escaped : {bytes : List ℕ} → Plain bytes → Field bytes bytes

-- field *(COMMA field)
pub data Fields : List ℕ → List (List ℕ) → Type 0 where
  last : {bytes value : List ℕ} → Field bytes value → Fields bytes (value ∷ [])
  more :
      {bytes value rest : List ℕ} {values : List (List ℕ)} → Field bytes value → Fields rest values →
      Fields (bytes ++ (comma ∷ rest)) (value ∷ values)

-- CRLF
abbrev pub line_end : List ℕ
line_end = carriage_return ∷ line_feed ∷ []

-- record = field *(COMMA field) [CRLF]
pub data Record : List ℕ → List (List ℕ) → Type 0 where
  unclosed : {bytes : List ℕ} {values : List (List ℕ)} → Fields bytes values → Record bytes values
  closed : {bytes : List ℕ} {values : List (List ℕ)} → Fields bytes values → Record (bytes ++ line_end) values
