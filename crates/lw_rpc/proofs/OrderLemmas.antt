-- Members that are put in in the order of their keys stand in that order.
use Rattle.std.proofs.Common.{◌≡◌, ℕ, suc, List, [], ◌∷◌, ◌++◌, map, length, get_or, All, AllPairs, Less, Greater, refl, ap, sym, subst, ◌∙◌, append_assoc, length-append, arith}
use Rattle.std.proofs.lemmas.List.{append-nil, get_or-map, get_or_append_left, length-map}
use Rattle.std.proofs.Math.Seq.{get_or-append_seam}
use Rattle.std.specs.Cmp.Lexicographic.{slice_cmp, nat_list_cmp_total}
use Rattle.std.specs.Ordering.{nat_cmp, ordering_reverse}
use Rattle.serde_json.specs.Data.{Data, Members, no_members, member, put}
use Rattle.lw_rpc.specs.Replies.{AreOrdered}
use Rattle.lw_rpc.specs.Values.{with_members, file_member}
use Rattle.lw_rpc.specs.declared.reply.FileEdits.{FileEdits}

-- the members as they stand in the list
abbrev pub members_as : List (List ℕ × Data) → Members
members_as [] = no_members
members_as (m ∷ others) = member m.0 m.1 (members_as others)

behind_it : (a b : List ℕ) → slice_cmp nat_cmp a b ≡ Less → slice_cmp nat_cmp b a ≡ Greater
behind_it a b before = nat_list_cmp_total.antisymm b a ∙ ap ordering_reverse before

-- the first document comes before the other
abbrev Precedes : FileEdits → FileEdits → Type 0
Precedes a b = slice_cmp nat_cmp a.uri b.uri ≡ Less

put-last : (file : FileEdits) (front : List FileEdits) → All (λ a. Precedes a file) front
    → put file.uri (file_member file).1 (members_as (map file_member front)) ≡ members_as (map file_member (front ++ file ∷ []))
put-last file [] before = refl
put-last file (a ∷ front) before =
    let here : slice_cmp nat_cmp file.uri a.uri ≡ Greater = behind_it a.uri file.uri (before 0 a (omega arith)) in
    rw here (ap (member a.uri (file_member a).1) (put-last file front (λ i d within. before (suc i) d (omega arith))))

all_before : (front : List FileEdits) (file : FileEdits) (others : List FileEdits) → AllPairs Precedes (front ++ file ∷ others) → All (λ a. Precedes a file) front
all_before front file others ordered i d within =
    let far : Precedes (get_or (front ++ file ∷ others) i d) (get_or (front ++ file ∷ others) (length front) d) =
    ordered i (length front) d within (omega (arith, length-append front (file ∷ others))) in
    rw (get_or_append_left front (file ∷ others) d i within, get_or-append_seam front file others d) at far

put_in_order : (front others : List FileEdits) → AllPairs Precedes (front ++ others)
    → with_members (members_as (map file_member front)) (map file_member others) ≡ members_as (map file_member (front ++ others))
put_in_order front [] ordered = ap (λ files. members_as (map file_member files)) (sym (append-nil front))
put_in_order front (file ∷ others) ordered =
    let e : (front ++ file ∷ []) ++ others ≡ front ++ file ∷ others = append_assoc front (file ∷ []) others in
    ap (λ found. with_members found (map file_member others)) (put-last file front (all_before front file others ordered))
    ∙ put_in_order (front ++ file ∷ []) others (subst (AllPairs Precedes) (sym e) ordered)
    ∙ ap (λ files. members_as (map file_member files)) e

Precedes-AreOrdered : (files : List FileEdits) → AreOrdered files → AllPairs Precedes files
Precedes-AreOrdered files ordered i j d below within =
    let uri_of : FileEdits → List ℕ = λ (file : FileEdits). file.uri in
    let far = ordered i j d.uri below (omega (arith, length-map files uri_of)) in
    rw (get_or-map uri_of files i d d.uri (omega arith), get_or-map uri_of files j d d.uri within) at far

pub with_members-in_order : (files : List FileEdits) → AreOrdered files → with_members no_members (map file_member files) ≡ members_as (map file_member files)
with_members-in_order files ordered = put_in_order [] files (Precedes-AreOrdered files ordered)
