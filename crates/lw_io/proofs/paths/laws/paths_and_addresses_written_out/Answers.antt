use Rattle.std.proofs.Common.{◌≡◌, ◌∷◌, [], true, not, ◌==◌, IsUtf8, codes, refl, sym, subst, true≢false}
use Rattle.std.proofs.Math.Utf8.{encode}
use Rattle.std.proofs.lemmas.List.Elements.{All-contains}
use Rattle.std.proofs.lemmas.List.Sums.{AllPass-from_list_all}
use Rattle.std.proofs.lemmas.Str.{IsUtf8-from_is_utf8, is_utf8-from_IsUtf8}
use Rattle.std.specs.Str.{is_utf8, chars}
use Rattle.percent_encoding.proofs.OnLiterals.{percent_encoding_on_literals}
use Rattle.lw_io.specs.Written.{IsWrittenPath}
use Rattle.lw_io.proofs.WrittenPaths.{path_as_written}
use Rattle.lw_io.proofs.paths.laws.paths_and_addresses_written_out.Goals as goal

pub returns-clause-escape : goal.returns-clause-escape
unfolding percent_encoding_on_literals is_utf8 chars encode
returns-clause-escape c = record {
  behind = codes "a%20b?x";
  begins = refl;
  decoded = refl;
  utf8 = IsUtf8-from_is_utf8 (codes "/a b") refl;
  nonzero = λ has. true≢false (sym (All-contains (λ byte. not (byte == 0) ≡ true) (codes "/a b") 0 (AllPass-from_list_all (λ byte. not (byte == 0)) (codes "/a b") refl) has));
}

not_utf8 : ¬ IsUtf8 (47 ∷ 255 ∷ [])
unfolding is_utf8 chars encode
not_utf8 utf8 = true≢false (sym (is_utf8-from_IsUtf8 (47 ∷ 255 ∷ []) utf8))

pub returns-clause-bytes : goal.returns-clause-bytes
unfolding percent_encoding_on_literals
returns-clause-bytes c = λ path has.
    let writes : IsWrittenPath (codes "file:///%ff") (codes "/%ff") = record { behind = codes "%ff"; begins = refl; path = refl } in
    not_utf8 (subst IsUtf8 (path_as_written writes has) has.utf8)

pub returns-clause-address : goal.returns-clause-address
unfolding percent_encoding_on_literals
returns-clause-address c = refl
