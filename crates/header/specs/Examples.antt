-- Headers computed by hand: document 01's example, its starred cases `ids 0 2`, and one file for each refusal 10 to 26.
use Rattle.std.specs.Prelude.{◌≡◌, ℕ, List, [], ◌∷◌, ◌++◌, true, length, pos, negsuc}
use Rattle.codes.specs.Limits.{limits}
use Rattle.codes.specs.Texts.{bytes}
use Rattle.read_text.specs.Text.{place}
use Rattle.header.specs.Header.{HeaderLoaded, header, refusal, nothing, length_fault, load_header}

-- a load of a file's header, where nothing is found before the input's length
abbrev pub loaded_head : List ℕ → HeaderLoaded
loaded_head f = load_header limits (length_fault limits (length f)) f

-- the header of document 01's example file
abbrev pub example_head : List ℕ
example_head =
    bytes
    ".ver DDDMP-2.0\n.mode A\n.varinfo 4\n.nnodes 3\n.nvars 2\n.nsuppvars 2\n.suppvarnames gate dock\n.orderedvarnames gate dock\n.ids 0 1\n.permids 0 1\n.nroots 2\n.rootids 3 -3\n.rootnames full short\n.nodes\n"

abbrev pub example_loaded : HeaderLoaded
example_loaded = record {
  answer = header (record {
    ascii = true;
    varinfo = 4;
    dd = place 0 0;
    nnodes = 3;
    nvars = 2;
    nsuppvars = 2;
    nroots = 2;
    next = 192;
    lines = 14;
  });
  ids = 0 ∷ 1 ∷ [];
  order = 0 ∷ 1 ∷ [];
  permids = 0 ∷ 1 ∷ [];
  auxids = [];
  names = place 107 4 ∷ place 112 4 ∷ [];
  roots = pos 3 ∷ negsuc 2 ∷ [];
  rootnames = place 174 4 ∷ place 179 5 ∷ [];
}

-- a file, and the number and line of its refusal
pub record HeaderRow : Type 0 where
  pub file : List ℕ
  pub number : ℕ
  pub line : ℕ

abbrev pub row : List ℕ → ℕ → ℕ → HeaderRow
row f n line = record { file = f; number = n; line = line }

-- each row is refused so, and leaves nothing
abbrev pub AllHeaders : List HeaderRow → Type 0
AllHeaders [] = Unit
AllHeaders (r ∷ rs) = (loaded_head r.file ≡ nothing (refusal r.number r.line)) × AllHeaders rs

abbrev pub head_refusals : List HeaderRow
head_refusals =
    row (bytes "") 10 0
    ∷ row (bytes ".nvars 1\n") 10 0
    ∷ row (bytes ".idss 0\n.nodes\n") 11 1
    ∷ row (bytes ".nvars 1\n\n.nodes\n") 11 2  -- an empty line has the empty key
    ∷ row (bytes ".ver DDDMP-1.0\n.nodes\n") 12 1
    ∷ row (bytes ".ver DDDMP-3.0\n.mode C\n.nodes\n") 13 2
    ∷ row (bytes ".varinfo 5\n.nodes\n") 13 1
    ∷ row (bytes ".nvars\n.nodes\n") 14 1
    ∷ row (bytes ".nnodes 1 2\n.nodes\n") 14 1
    ∷ row (bytes ".nvars 4294967296\n.nodes\n") 15 1
    ∷ row (bytes ".nnodes 18446744073709551616\n.nodes\n") 15 1
    ∷ row (bytes ".ids 0,1\n.nodes\n") 16 1
    ∷ row (bytes ".rootids 3-\n.nodes\n") 17 1
    ∷ row (bytes ".nvars 1\n.dd " ++ (0xff ∷ bytes "\n.nodes\n")) 18 2
    ∷ row (bytes ".rootnames a " ++ (0xc0 ∷ bytes "\n.nodes\n")) 18 1
    ∷ row (bytes ".nvars 4097\n.nodes\n") 19 0
    ∷ row (bytes ".nnodes 1000001\n.nodes\n") 19 0
    ∷ row (bytes ".nsuppvars 1\n.nodes\n") 20 0
    ∷ row (bytes ".nvars 1\n.nsuppvars 1\n.nodes\n") 21 0
    ∷ row (bytes ".nvars 1\n.varnames a b\n.nodes\n") 21 0
    ∷ row (bytes ".nroots 1\n.nodes\n") 21 0
    ∷ row (bytes ".nvars 2\n.nsuppvars 2\n.ids 0 2\n.permids 0 1\n.nodes\n") 22 0  -- starred: ids `0 2`, two variables
    ∷ row (bytes ".nvars 2\n.nsuppvars 2\n.ids 1 0\n.permids 0 1\n.nodes\n") 22 0
    ∷ row (bytes ".nvars 2\n.nsuppvars 2\n.ids 0 1\n.permids 1 1\n.nodes\n") 23 0
    ∷ row (bytes ".nvars 1\n.nsuppvars 1\n.ids 0\n.permids 1\n.nodes\n") 23 0
    ∷ row (bytes ".nvars 1\n.nsuppvars 1\n.ids 0\n.permids 0\n.suppvarnames a\n.varnames b\n.nodes\n") 24 0
    ∷ row (bytes ".nvars 1\n.nsuppvars 1\n.ids 0\n.permids 0\n.suppvarnames a\n.orderedvarnames b\n.nodes\n") 24 0
    ∷ row (bytes ".nvars 1\n.nsuppvars 1\n.ids 0\n.permids 0\n.orderedvarnames a\n.varnames b\n.nodes\n") 24 0
    ∷ row (bytes ".nroots 1\n.rootids 0\n.nodes\n") 25 0
    ∷ row (bytes ".nnodes 1\n.nroots 2\n.rootids 1 -2\n.nodes\n") 26 0
    ∷ []

-- starred: ids `0 2`, three variables: accepted
abbrev pub starred_head : List ℕ
starred_head = bytes ".nvars 3\n.nsuppvars 2\n.ids 0 2\n.permids 2 0\n.suppvarnames a b\n.nodes\n"

abbrev pub starred_loaded : HeaderLoaded
starred_loaded = record {
  answer = header (record {
    ascii = true;
    varinfo = 4;
    dd = place 0 0;
    nnodes = 0;
    nvars = 3;
    nsuppvars = 2;
    nroots = 0;
    next = 69;
    lines = 6;
  });
  ids = 0 ∷ 2 ∷ [];
  order = 2 ∷ 0 ∷ [];
  permids = 2 ∷ 0 ∷ [];
  auxids = [];
  names = place 58 1 ∷ place 0 0 ∷ place 60 1 ∷ [];
  roots = [];
  rootnames = [];
}
