-- Node lines of an export, computed by hand: document 01's example, in both modes.
use Rattle.std.specs.Prelude.{ℕ, List, [], ◌∷◌, ℤ, pos, negsuc}
use Rattle.codes.specs.Texts.{bytes}
use Rattle.store.specs.Store.{Store, store}
use Rattle.node_lines.specs.Line.{Line, terminal, inner}
use Rattle.numbering.specs.Numbering.{numbering}

-- the nodes of document 01's example, and its roots
abbrev pub example_store : Store
example_store = store 2 3 (0 ∷ 1 ∷ 0 ∷ []) (pos 0 ∷ pos 1 ∷ pos 2 ∷ []) (pos 0 ∷ negsuc 0 ∷ negsuc 0 ∷ []) [] []

abbrev pub example_store_roots : List ℤ
example_store_roots = pos 3 ∷ negsuc 2 ∷ []

abbrev pub example_nodes : List ℕ
example_nodes = numbering example_store example_store_roots

abbrev pub example_lines : List Line
example_lines = terminal ∷ inner 1 (pos 1) (negsuc 0) ∷ inner 0 (pos 2) (negsuc 0) ∷ []

abbrev pub example_text : List ℕ
example_text = bytes "1 T 0 0\n2 1 1 -1\n3 0 2 -1\n"

-- starred: 'those nodes in binary: 00 00 24 02 7c'
abbrev pub example_binary : List ℕ
example_binary = 0x00 ∷ 0x00 ∷ 0x24 ∷ 0x02 ∷ 0x7c ∷ []

-- a store whose nodes were made in another order than an export writes them: the roots 6 and -3 lead to all of them but node 4
abbrev pub mixed : Store
mixed =
    store 3 6 (0 ∷ 2 ∷ 0 ∷ 1 ∷ 1 ∷ 0 ∷ [])
    (pos 0 ∷ pos 1 ∷ pos 1 ∷ pos 1 ∷ pos 2 ∷ pos 5 ∷ [])
    (pos 0 ∷ negsuc 0 ∷ negsuc 0 ∷ negsuc 0 ∷ pos 1 ∷ negsuc 1 ∷ []) [] []

abbrev pub mixed_roots : List ℤ
mixed_roots = pos 6 ∷ negsuc 2 ∷ []
