-- How out-of-order bytes are stored: in pages. Only pages in which a byte was received are
-- allocated.
use Rattle.std.specs.Prelude.{◌≡◌, ℕ, zero, suc, ◌+◌, ◌-◌, ◌/◌, ◌%◌, ◌^◌, ◌<◌, ◌≤◌, nat_lt, is_some, Bool, true, if◌then◌else◌, Option, Some, None, List, [], ◌∷◌, length}
use Rattle.std.specs.BTreeMap.{BTreeMap, get}
use Rattle.std.specs.Global.{Box}
use Rattle.std.specs.Ordering.{nat_cmp}
use Rattle.segments.specs.Cells.{Bytes, Cells, byte_at, cell, earlier, known}

-- The number of positions of a page.
abbrev pub page_length : ℕ
page_length = 1024

-- Positions in a row, each with a mark: if it is set, the byte is present.
abbrev pub marked : List Bool → Bytes → Cells
marked [] bs = []
marked (m ∷ ms) [] = []
marked (m ∷ ms) (b ∷ bs) = (if m then Some b else None) ∷ marked ms bs

-- How many marks are set.
abbrev pub set_marks : List Bool → ℕ
set_marks [] = 0
set_marks (m ∷ ms) = (if m then 1 else 0) + set_marks ms

-- What a page keeps: `held` marks are set.
pub record IsMarked (marks : List Bool) (bytes : Bytes) (held : ℕ) : Type 0 where
  pub marks_long : length marks ≡ page_length
  pub bytes_long : length bytes ≡ page_length
  pub held_is : held ≡ set_marks marks

-- The positions of a page.
abbrev pub Page : Type 0
Page = Box Cells

-- Pages by their numbers: page k has the positions from k * page_length on.
abbrev pub Pages : Type 0
Pages = BTreeMap ℕ Page

abbrev pub page : Pages → ℕ → Option Page
page m k = get nat_cmp m k

-- The byte at a position of a page, if any; none if the page isn't allocated.
abbrev pub cell_in : Option Page → ℕ → Option ℕ
cell_in None i = None
cell_in (Some p) i = cell p.value i

abbrev pub place : Pages → ℕ → Option ℕ
place m j = cell_in (page m (j / page_length)) (j % page_length)

-- n positions, from k on.
abbrev pub places : ℕ → ℕ → Pages → Cells
places zero k m = []
places (suc n) k m = place m k ∷ places n (suc k) m

-- Each page has all its positions.
abbrev pub AreWhole : Pages → Type 0
AreWhole m = (k : ℕ) (p : Page) → page m k ≡ Some p → length p.value ≡ page_length

-- The byte that bytes written from `at` on put at j.
abbrev pub written : ℕ → Bytes → ℕ → Option ℕ
written at ys j = if nat_lt j at then None else byte_at ys (j - at)

-- Each position has the same byte, and each page is still there.
pub record IsSame (m n : Pages) : Type 0 where
  pub whole : AreWhole n
  pub stands : (j : ℕ) → place n j ≡ place m j
  pub there : (k : ℕ) → is_some (page m k) ≡ true → is_some (page n k) ≡ true

-- Bytes were written to the empty positions, `count` of them.
pub record IsWritten (at : ℕ) (ys : Bytes) (m n : Pages) (count : ℕ) : Type 0 where
  pub whole : AreWhole n
  pub stands : (j : ℕ) → place n j ≡ earlier (place m j) (written at ys j)
  pub there : (k : ℕ) → is_some (page m k) ≡ true → is_some (page n k) ≡ true
  pub counted : (k l : ℕ) → k ≤ at → at + length ys ≤ k + l
      → known (places l k n) ≡ known (places l k m) + count

-- What a Window keeps: no byte is present after its last position.
pub record IsPaged (begin len held : ℕ) (pages : Pages) : Type 0 where
  pub whole : AreWhole pages
  pub held_is : held ≡ known (places len begin pages)
  pub empty_behind : (j : ℕ) → begin + len ≤ j → place pages j ≡ None
  pub small : begin + len < 2 ^ 64
