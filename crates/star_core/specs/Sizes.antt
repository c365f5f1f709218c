-- What the values of an evaluation cost, in bytes: a table by kind of cell, and the limits.
use Rattle.std.specs.Prelude.{ℕ, ◌+◌, ◌*◌, Bool, false, length, nat_lt}
use Rattle.star_core.specs.declared.cells.Cell.{Cell}
use Rattle.star_core.specs.declared.cells.Cell.TheVariants as cell

-- the most bytes of a text: 16 MiB
abbrev pub most_bytes : ℕ
most_bytes = 16777216

-- the most items or entries of a container
abbrev pub most_entries : ℕ
most_entries = 1048576

-- the most that all values made in one run may cost: 64 MiB
abbrev pub most_sizes : ℕ
most_sizes = 67108864

-- what an item added to a list costs, and an entry added to a dictionary
abbrev pub item_size : ℕ
item_size = 16

abbrev pub entry_size : ℕ
entry_size = 32

-- what making a cell costs
unfoldable pub size_of : Cell → ℕ
size_of (cell.Text text) = 16 + length text
size_of (cell.List items) = 16 + item_size * length items
size_of (cell.Tuple items) = 16 + item_size * length items
size_of (cell.Dict entries) = 16 + entry_size * length entries
size_of (cell.Range first stop step) = 16
size_of (cell.Function function) = 16
size_of (cell.Builtin name) = 16
size_of (cell.Bound receiver method) = 16
size_of (cell.Struct fields) = 16 + entry_size * length fields
size_of (cell.Label label) = 16
size_of (cell.Path repo segments) = 16
size_of (cell.Host kind fields) = 16

-- a text or a container that is larger than any may be
unfoldable pub is_too_large : Cell → Bool
is_too_large (cell.Text text) = nat_lt most_bytes (length text)
is_too_large (cell.List items) = nat_lt most_entries (length items)
is_too_large (cell.Tuple items) = nat_lt most_entries (length items)
is_too_large (cell.Dict entries) = nat_lt most_entries (length entries)
is_too_large (cell.Range first stop step) = false
is_too_large (cell.Function function) = false
is_too_large (cell.Builtin name) = false
is_too_large (cell.Bound receiver method) = false
is_too_large (cell.Struct fields) = false
is_too_large (cell.Label label) = false
is_too_large (cell.Path repo segments) = false
is_too_large (cell.Host kind fields) = false
