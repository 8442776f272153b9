-- More headers computed by hand, each with the phrase of document 01 that its answer follows from.
use Rattle.std.specs.Prelude.{◌≡◌, ℕ, List, [], ◌∷◌, true, pos, negsuc}
use Rattle.codes.specs.Texts.{bytes}
use Rattle.read_text.specs.Text.{Place, place}
use Rattle.header.specs.Header.{HeaderLoaded, header}
use Rattle.header.specs.Examples.{HeaderRow, row, loaded_head}

-- '21 wrong entry count in `.ids`, `.permids`, nonempty `.auxids`', '21 for nonempty `.orderedvarnames`, `.suppvarnames`, `.varnames`',
-- '21 for `.rootids`', '21 for nonempty `.rootnames`': one file for each list, in which no other list is wrong. Line 0: 'in every check made
-- after `.nodes`' line'.
abbrev pub count_refusals : List HeaderRow
count_refusals =
    row (bytes ".nvars 1\n.nsuppvars 1\n.permids 0\n.nodes\n") 21 0
    ∷ row (bytes ".nvars 1\n.nsuppvars 1\n.ids 0\n.nodes\n") 21 0
    ∷ row (bytes ".nvars 2\n.nsuppvars 2\n.ids 0 1\n.permids 0 1\n.auxids 7\n.nodes\n") 21 0
    ∷ row (bytes ".nvars 2\n.orderedvarnames a\n.nodes\n") 21 0
    ∷ row (bytes ".nvars 2\n.suppvarnames a b\n.nodes\n") 21 0
    ∷ row (bytes ".nvars 2\n.varnames a b c\n.nodes\n") 21 0
    ∷ row (bytes ".nnodes 1\n.nroots 2\n.rootids 1\n.nodes\n") 21 0
    ∷ row (bytes ".nnodes 1\n.nroots 1\n.rootids 1\n.rootnames a b\n.nodes\n") 21 0
    ∷ []

-- 'A repeated key: the last counts, but each is read.'
abbrev pub repeated_refusals : List HeaderRow
repeated_refusals =
    -- a bad number, mode or list is refused, though a good one follows
    row (bytes ".nnodes x\n.nnodes 2\n.nodes\n") 14 1
    ∷ row (bytes ".mode C\n.mode A\n.nodes\n") 13 1
    ∷ row (bytes ".ids 0,1\n.ids 0\n.nvars 1\n.nsuppvars 1\n.permids 0\n.nodes\n") 16 1
    -- the last number of nodes, 2, is the one that a root is held to
    ∷ row (bytes ".nnodes 5\n.nnodes 2\n.nroots 1\n.rootids 3\n.nodes\n") 26 0
    ∷ []

-- 'trailing CR and LF go. The key runs to the first space or tab; the value is trimmed of both.'
abbrev pub blank_refusals : List HeaderRow
blank_refusals =
    -- a CR that isn't trailing is a foreign character
    row (bytes ".nvars 1\r 2\n.nodes\n") 14 1
    ∷ row (bytes ".nvars 1\r \n.nodes\n") 14 1
    -- before a tab stands the empty key
    ∷ row (bytes "\t.nvars 1\n.nodes\n") 11 1
    ∷ []

-- Two faults on one line, or on two.
abbrev pub line_order_refusals : List HeaderRow
line_order_refusals =
    -- 'Entries of a line are judged left to right'
    row (bytes ".rootids 1 x 9223372036854775808\n.nodes\n") 16 1
    ∷ row (bytes ".rootids 9223372036854775808 x\n.nodes\n") 15 1
    -- 'line by line': the first line decides, though its number is larger
    ∷ row (bytes ".rootids 3-\n.idss 0\n.nodes\n") 17 1
    -- a line before the header as a whole, which would be 20
    ∷ row (bytes ".nsuppvars 1\n.rootids 3-\n.nodes\n") 17 2
    -- a line before the end of the input, which would be 10
    ∷ row (bytes ".nvars x\n") 14 1
    ∷ []

-- Two faults of 'header as a whole, in this order'.
abbrev pub whole_order_refusals : List HeaderRow
whole_order_refusals =
    -- '19 for `.nvars`' before '20 `.nsuppvars` above `.nvars`'
    row (bytes ".nvars 4097\n.nsuppvars 4098\n.nodes\n") 19 0
    -- 'then `.nnodes`' before 20
    ∷ row (bytes ".nnodes 1000001\n.nsuppvars 1\n.nodes\n") 19 0
    -- 20 before '21 wrong entry count in `.ids`'
    ∷ row (bytes ".nsuppvars 1\n.nodes\n") 20 0
    -- 21 in `.permids` before '22 `.ids` .. last not below `.nvars`'
    ∷ row (bytes ".nvars 1\n.nsuppvars 1\n.ids 1\n.nodes\n") 21 0
    -- '22 `.ids` not strictly ascending' before '23 a permid .. twice'
    ∷ row (bytes ".nvars 2\n.nsuppvars 2\n.ids 1 0\n.permids 1 1\n.nodes\n") 22 0
    -- '23 a permid not below `.nvars`' before '21 for nonempty .. `.varnames`'
    ∷ row (bytes ".nvars 1\n.nsuppvars 1\n.ids 0\n.permids 1\n.varnames a b\n.nodes\n") 23 0
    -- '21 for nonempty .. `.varnames`' before '24 .. `.orderedvarnames`, or either and `.suppvarnames`, give unlike names'
    ∷ row (bytes ".nvars 1\n.nsuppvars 1\n.ids 0\n.permids 0\n.suppvarnames a\n.orderedvarnames b\n.varnames a b\n.nodes\n") 21 0
    -- 24 before '21 for `.rootids`'
    ∷ row (bytes ".nvars 1\n.nsuppvars 1\n.ids 0\n.permids 0\n.suppvarnames a\n.varnames b\n.nroots 1\n.nodes\n") 24 0
    -- '21 for `.rootids`' before 'per root 25 zero'
    ∷ row (bytes ".nroots 1\n.rootids 0 0\n.nodes\n") 21 0
    -- 'per root 25 zero, 26 magnitude above `.nnodes`': the first root decides
    ∷ row (bytes ".nnodes 1\n.nroots 2\n.rootids 0 2\n.nodes\n") 25 0
    ∷ row (bytes ".nnodes 1\n.nroots 2\n.rootids 2 0\n.nodes\n") 26 0
    -- 26 before '21 for nonempty `.rootnames`'
    ∷ row (bytes ".nroots 1\n.rootids 1\n.rootnames a b\n.nodes\n") 26 0
    ∷ []

-- a file, and what it gives
pub record HeadRow : Type 0 where
  pub content : List ℕ
  pub gives : HeaderLoaded

-- each row gives that
abbrev pub AllHeadsGiven : List HeadRow → Type 0
AllHeadsGiven [] = Unit
AllHeadsGiven (r ∷ rs) = (loaded_head r.content ≡ r.gives) × AllHeadsGiven rs

-- a header of text without lists, by its numbers: nodes, variables, the diagram's name, where the nodes start, and how many lines it has
abbrev pub plain_head : ℕ → ℕ → Place → ℕ → ℕ → HeaderLoaded
plain_head nodes vars name start lines = record {
  answer = header (record {
    ascii = true;
    varinfo = 4;
    dd = name;
    nnodes = nodes;
    nvars = vars;
    nsuppvars = 0;
    nroots = 0;
    next = start;
    lines = lines;
  });
  ids = [];
  order = [];
  permids = [];
  auxids = [];
  names = [];
  roots = [];
  rootnames = [];
}

abbrev pub plain_heads : List HeadRow
plain_heads =
    -- 'A repeated key: the last counts'; '19 for `.nvars`' is a check of the header as a whole, so a replaced one isn't held to it
    record { content = bytes ".nnodes 5\n.nnodes 2\n.nodes\n"; gives = plain_head 2 0 (place 0 0) 27 3 }
    ∷ record { content = bytes ".nvars 4097\n.nvars 1\n.nodes\n"; gives = plain_head 0 1 (place 0 0) 28 3 }
    -- 'trailing CR and LF go': one CR, two
    ∷ record { content = bytes ".nvars 1\r\n.nodes\r\n"; gives = plain_head 0 1 (place 0 0) 18 2 }
    ∷ record { content = bytes ".nvars 1\r\r\n.nodes\n"; gives = plain_head 0 1 (place 0 0) 18 2 }
    -- 'The key runs to the first space or tab; the value is trimmed of both'; 'The value of `.nodes` is ignored'
    ∷ record { content = bytes ".nvars\t1\t\n.nodes\n"; gives = plain_head 0 1 (place 0 0) 17 2 }
    ∷ record { content = bytes ".nvars \t 1\t \n.dd\t a b \t\n.nodes \t x\n"; gives = plain_head 0 1 (place 18 3) 35 3 }
    ∷ []

-- 'else `.orderedvarnames`, support variables by permid and the rest in order': variables 1 and 3 have the fifth name and the second, and 0, 2
-- and 4, which are outside the support, have the others in their order. 'Support order is `.ids` arranged by ascending permid.'
abbrev pub some_free : List ℕ
some_free =
    bytes
    ".nvars 5\n.nsuppvars 2\n.ids 1 3\n.permids 4 1\n.orderedvarnames p q r s t\n.nodes\n"

abbrev pub some_free_gives : HeaderLoaded
some_free_gives = record {
  answer = header (record {
    ascii = true;
    varinfo = 4;
    dd = place 0 0;
    nnodes = 0;
    nvars = 5;
    nsuppvars = 2;
    nroots = 0;
    next = 78;
    lines = 6;
  });
  ids = 1 ∷ 3 ∷ [];
  order = 3 ∷ 1 ∷ [];
  permids = 4 ∷ 1 ∷ [];
  auxids = [];
  names = place 61 1 ∷ place 69 1 ∷ place 65 1 ∷ place 63 1 ∷ place 67 1 ∷ [];
  roots = [];
  rootnames = [];
}

-- 'else `.suppvarnames` with empty names elsewhere'; 'An empty name .. is start 0, length 0.'
abbrev pub some_unnamed : List ℕ
some_unnamed =
    bytes
    ".nvars 4\n.nsuppvars 2\n.ids 1 3\n.permids 0 2\n.suppvarnames a b\n.nodes\n"

abbrev pub some_unnamed_gives : HeaderLoaded
some_unnamed_gives = record {
  answer = header (record {
    ascii = true;
    varinfo = 4;
    dd = place 0 0;
    nnodes = 0;
    nvars = 4;
    nsuppvars = 2;
    nroots = 0;
    next = 69;
    lines = 6;
  });
  ids = 1 ∷ 3 ∷ [];
  order = 1 ∷ 3 ∷ [];
  permids = 0 ∷ 2 ∷ [];
  auxids = [];
  names = place 0 0 ∷ place 58 1 ∷ place 0 0 ∷ place 60 1 ∷ [];
  roots = [];
  rootnames = [];
}

-- '`.varnames` first'; '24 for a support variable': names outside the support may be unlike
abbrev pub unlike_outside : List ℕ
unlike_outside =
    bytes
    ".nvars 4\n.nsuppvars 1\n.ids 2\n.permids 0\n.suppvarnames c\n.orderedvarnames c x y z\n.varnames a b c d\n.nodes\n"

abbrev pub unlike_outside_gives : HeaderLoaded
unlike_outside_gives = record {
  answer = header (record {
    ascii = true;
    varinfo = 4;
    dd = place 0 0;
    nnodes = 0;
    nvars = 4;
    nsuppvars = 1;
    nroots = 0;
    next = 106;
    lines = 8;
  });
  ids = 2 ∷ [];
  order = 2 ∷ [];
  permids = 0 ∷ [];
  auxids = [];
  names = place 91 1 ∷ place 93 1 ∷ place 95 1 ∷ place 97 1 ∷ [];
  roots = [];
  rootnames = [];
}

-- All eight lists with as many entries as they need. A list of ids that was replaced isn't held to `.nsuppvars`: 'the last counts'.
abbrev pub all_lists : List ℕ
all_lists =
    bytes
    ".nvars 2\n.nsuppvars 2\n.ids 0\n.ids 0 1\n.permids 1 0\n.auxids 7 8\n.orderedvarnames b a\n.suppvarnames a b\n.varnames a b\n.nnodes 1\n.nroots 2\n.rootids 1 -1\n.rootnames f g\n.nodes\n"

abbrev pub all_lists_gives : HeaderLoaded
all_lists_gives = record {
  answer = header (record {
    ascii = true;
    varinfo = 4;
    dd = place 0 0;
    nnodes = 1;
    nvars = 2;
    nsuppvars = 2;
    nroots = 2;
    next = 172;
    lines = 14;
  });
  ids = 0 ∷ 1 ∷ [];
  order = 1 ∷ 0 ∷ [];
  permids = 1 ∷ 0 ∷ [];
  auxids = 7 ∷ 8 ∷ [];
  names = place 112 1 ∷ place 114 1 ∷ [];
  roots = pos 1 ∷ negsuc 0 ∷ [];
  rootnames = place 161 1 ∷ place 163 1 ∷ [];
}
