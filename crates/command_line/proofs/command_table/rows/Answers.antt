use Rattle.std.proofs.Common.{refl}
use Rattle.clap.specs.declared.builder.ValueParser.TheVariants.{Names, Unsigned}
use Rattle.command_line.proofs.command_table.rows.Goals as goal

-- The rows in the code are the rows of the definition, with these parsers. Those of `--print` and `--color` have no name here, since they
-- refer to texts in a static.
pub returns : goal.returns
returns c = λ known. (
  record {
    algs = Names known.algs;
    templates = Names known.templates;
    workers = Unsigned 1 8;
    limit = Unsigned 1 4294967295;
    prints = _;
    parts = _;
    colors = _;
  },
  refl,
)
