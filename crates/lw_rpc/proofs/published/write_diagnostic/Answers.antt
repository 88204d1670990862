use Rattle.std.proofs.Common.{◌++◌, ◌∙◌, ap, sym, append_assoc, codes, decimal, string_bytes}
use Rattle.json.specs.Print.{quoted}
use Rattle.lw_rpc.proofs.PartLemmas.{diagnostic_reads}
use Rattle.lw_rpc.proofs.PushLemmas.{pushed_2, pushed_5}
use Rattle.lw_rpc.specs.Replies.{range_text}
use Rattle.lw_rpc.specs.Values.{severity}
use Rattle.lw_rpc.proofs.published.write_diagnostic.Goals as goal

pub returns-clause-text : goal.returns-clause-text
returns-clause-text c =
    let shown = c.args.shown.now in
    let start = string_bytes c.args.out.now in
    let bad = codes ",\"severity\":" in
    let number = decimal (severity shown.code) in
    let first =
    pushed_5 start (codes "{\"code\":") (decimal shown.code) (codes ",\"message\":") (quoted shown.message) (codes ",\"range\":")
    c.in_ok-push_str.ensures.bytes c.in_ok-write_small.ensures.text c.in_ok-push_str-2.ensures.bytes c.in_ok-write_quoted.ensures c.in_ok-push_str-3.ensures.bytes in
    let head = codes "{\"code\":" ++ decimal shown.code ++ codes ",\"message\":" ++ quoted shown.message ++ codes ",\"range\":" ++ range_text shown.start shown.end in
    let ranged = pushed_2 start _ (range_text shown.start shown.end) first c.in_ok-write_range.ensures.text in
    let all = pushed_2 start head (bad ++ number) ranged c.in_ok-write_severity.ensures.text ∙ ap (λ t. start ++ t) (sym (append_assoc head bad number)) in
    pushed_2 start (head ++ bad ++ number) (codes "}") all c.in_ok-push_str-4.ensures.bytes

pub returns-clause-reads : goal.returns-clause-reads
returns-clause-reads c = diagnostic_reads c.args.shown.now c.in_ok-write_small.ensures.reads c.in_ok-write_range.ensures.reads c.in_ok-write_severity.ensures.reads
