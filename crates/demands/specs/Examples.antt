-- Loads computed by hand: a bare file, and document 01's example.
use Rattle.std.specs.Prelude.{ℕ, true, List, [], ◌∷◌, ◌++◌, pos}
use Rattle.codes.specs.Texts.{bytes}
use Rattle.read_text.specs.Text.{place}
use Rattle.header.specs.Header.{Header}
use Rattle.header.specs.Examples as head
use Rattle.calls.specs.Load.{Lengths, Load}
use Rattle.calls.specs.Calls.{Call, load, evaluate}

-- lists that are just long enough, with scratch for n nodes
abbrev pub enough_for : ℕ → Lengths
enough_for n = record {
  ids = 4096;
  order = 4096;
  permids = 4096;
  auxids = 4096;
  names = 4096;
  lens = 4096;
  roots = 1024;
  rootnames = 1024;
  rootlens = 1024;
  edges = n;
  seats = n;
}

-- a file with no variable, no node and no root
abbrev pub bare_load : Load
bare_load = record { file = bytes ".nodes\n.end\n"; list = []; lent = enough_for 0 }

abbrev pub bare_header : Header
bare_header = record {
  ascii = true;
  varinfo = 4;
  dd = place 0 0;
  nnodes = 0;
  nvars = 0;
  nsuppvars = 0;
  nroots = 0;
  next = 7;
  lines = 1;
}

-- document 01's example, at the two levels of a store
abbrev pub example_load : Load
example_load = record {
  file = head.example_head ++ bytes "1 T 0 0\n2 1 1 -1\n3 0 2 -1\n.end\n";
  list = 0 ∷ 1 ∷ [];
  lent = enough_for 3;
}

abbrev pub example_header : Header
example_header = record {
  ascii = true;
  varinfo = 4;
  dd = place 0 0;
  nnodes = 3;
  nvars = 2;
  nsuppvars = 2;
  nroots = 2;
  next = 192;
  lines = 14;
}

-- the example is loaded, its first root evaluated, and the example loaded again
abbrev pub twice : List Call
twice = load example_load ∷ evaluate (pos 3) (1 ∷ 1 ∷ []) ∷ load example_load ∷ []
