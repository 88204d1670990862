use Rattle.std.proofs.Common.{◌≡◌, ◌++◌, map}
use Rattle.lw_load.specs.Paths.{import_path}
use Rattle.lw_load.proofs.walk.put_imports.Given as goal

-- the paths of the imports so far wait
abbrev pub invariant-putting : goal.invariant-putting
invariant-putting l = l.waiting.items ≡ l.fn.waiting.items ++ map (λ i. import_path l.importer i.now.path) l.yielded
