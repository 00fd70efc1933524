-- What a list in memory of a fixed size holds.
use Rattle.std.specs.Prelude.{ℕ, List, take}
use Rattle.lists.specs.declared.fixed_list.FixedList.{FixedList}

-- its items, in order
abbrev pub listed : {T : Type 0} {n : ℕ} → FixedList T n → List T
listed l = take l.count l.items
