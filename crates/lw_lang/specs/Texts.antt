-- What each fault of a grammar is called, by its number.
use Rattle.std.specs.Prelude.{ℕ, List, [], codes, nat_eq, if◌then◌else◌}

abbrev pub fault_text : ℕ → List ℕ
fault_text n =
    if nat_eq n 1 then codes "no entry rule"
    else if nat_eq n 2 then codes "second entry rule"
    else if nat_eq n 3 then codes "entry makes no node"
    else if nat_eq n 4 then codes "duplicate"
    else if nat_eq n 5 then codes "unknown rule"
    else if nat_eq n 6 then codes "unknown type"
    else if nat_eq n 7 then codes "left recursion"
    else if nat_eq n 8 then codes "reads nothing"
    else if nat_eq n 9 then codes "repeats nothing"
    else if nat_eq n 10 then codes "never ends"
    else if nat_eq n 11 then codes "misplaced action"
    else if nat_eq n 12 then codes "misplaced call"
    else if nat_eq n 13 then codes "mixed data type rule"
    else if nat_eq n 14 then codes "unknown property"
    else if nat_eq n 15 then codes "wrong property form"
    else if nat_eq n 16 then codes "mixed property"
    else if nat_eq n 17 then codes "not a subtype"
    else if nat_eq n 18 then codes "no name rule"
    else if nat_eq n 19 then codes "circular type"
    else if nat_eq n 20 then codes "circular call"
    else if nat_eq n 21 then codes "bad call"
    else if nat_eq n 22 then codes "bad assignment"
    else if nat_eq n 23 then codes "too many rules"
    else []
