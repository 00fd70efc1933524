-- The four codings. A word of the first three holds a node below 1024, and the first of them also the number of the table.
use Rattle.std.specs.Prelude.{ℕ, ◌+◌, ◌*◌, ◌/◌, ◌%◌, Bool, true, cond, ◌&&◌, List, [], ◌∷◌, take, position, is_some, ◌==◌, nat_lt, slice_index_or}
use Rattle.std.specs.Option.{unwrap_or}
use Rattle.netlists.specs.declared.Node.{Node}
use Rattle.netlists.specs.declared.Row.{Row}
use Rattle.codings.specs.Coders.{Coder}

-- ---- tables by number

-- the tables over two nodes, 0 at index 0: an AND with one input inverted or none, or an OR
abbrev pub and_tables : List ℕ
and_tables = 0x8888 ∷ 0x2222 ∷ 0x4444 ∷ 0xEEEE ∷ []

-- and the exclusive-or
abbrev pub and_xor_tables : List ℕ
and_xor_tables = 0x8888 ∷ 0x2222 ∷ 0x4444 ∷ 0xEEEE ∷ 0x6666 ∷ []

-- and over three nodes, 0 at index 0: the majority, with one input inverted or none
abbrev pub majority_tables : List ℕ
majority_tables = 0x8888 ∷ 0x2222 ∷ 0x4444 ∷ 0xEEEE ∷ 0xE8E8 ∷ 0xD4D4 ∷ 0xB2B2 ∷ 0x8E8E ∷ []

-- where a table stands in a list, or 4 where it does not
abbrev pub number_in : List ℕ → ℕ → ℕ
number_in ts t = unwrap_or (position (λ x. x == t) ts) 4

-- the table of a number, or the exclusive-or where the list has none
abbrev pub table_in : List ℕ → ℕ → ℕ
table_in ts n = slice_index_or ts n 0x6666

-- ---- rows

abbrev pub node_in : List ℕ → ℕ → Node
node_in ws k = record { number = slice_index_or ws k 0 % 1024 }

abbrev pub near_encode : ℕ → List ℕ → Row → List ℕ
near_encode width ts r =
    take width ((r.nodes.a.number % 1024 + 1024 * number_in ts r.table) ∷ (r.nodes.b.number % 1024) ∷ (r.nodes.c.number % 1024) ∷ (r.nodes.d.number % 1024) ∷ [])

abbrev pub near_decode : List ℕ → List ℕ → Row
near_decode ts ws = record { table = table_in ts (slice_index_or ws 0 0 / 1024); nodes = record { a = node_in ws 0; b = node_in ws 1; c = node_in ws 2; d = node_in ws 3 } }

-- node k of a row has a word of its own and fits into it, or is not used
abbrev pub near_node : ℕ → ℕ → Node → Bool
near_node width k n = cond (nat_lt k width) (nat_lt n.number 1024) (n.number == 0)

abbrev pub near_nodes : ℕ → Row → Bool
near_nodes width r = near_node width 0 r.nodes.a && near_node width 1 r.nodes.b && near_node width 2 r.nodes.c && near_node width 3 r.nodes.d

abbrev pub near_coder : ℕ → List ℕ → Coder
near_coder width ts = record {
  codes = λ r. near_nodes width r && is_some (position (λ x. x == r.table) ts);
  encode = near_encode width ts;
  decode = near_decode ts;
}

-- ---- the codings

abbrev pub and_coder : Coder
and_coder = near_coder 2 and_tables

abbrev pub and_xor_coder : Coder
and_xor_coder = near_coder 2 and_xor_tables

abbrev pub majority_coder : Coder
majority_coder = near_coder 3 majority_tables

-- the table and the nodes
abbrev pub every_coder : Coder
every_coder = record {
  codes = λ _. true;
  encode = λ r. r.table ∷ r.nodes.a.number ∷ r.nodes.b.number ∷ r.nodes.c.number ∷ r.nodes.d.number ∷ [];
  decode = λ ws. record {
    table = slice_index_or ws 0 0;
    nodes = record {
      a = record { number = slice_index_or ws 1 0 };
      b = record { number = slice_index_or ws 2 0 };
      c = record { number = slice_index_or ws 3 0 };
      d = record { number = slice_index_or ws 4 0 };
    };
  };
}
