-- Where the source's writer returns, for a whole task: `smt_horn.rs`, function by function under the source's names. The file has
-- no `assert!`, `panic!` or `unwrap` of its own, so it does not return where a function of `smt_fmt.rs` that it calls does not.
use Rattle.std.specs.Prelude.{Bool, ◌&&◌, List}
use Rattle.task.specs.Ast.{DataDecl, Task}
use Rattle.task.specs.Returns.{every, write_binders_return, write_pred_returns, write_datatype_decl_returns, write_const_decl_returns, write_fun_def_returns, write_kvar_decl_returns}
use Rattle.horn_text.specs.Clauses.{HornClause, clauses_of}

-- `write_assert`: the sorts of the binders, the guards, the head
unfoldable pub write_assert_returns : List DataDecl → HornClause → Bool
write_assert_returns ds c =
    write_binders_return ds c.vars && (every (write_pred_returns ds) c.guards && write_pred_returns ds c.head)

-- `write_smt_horn`: the declarations in section order, and the clauses of `flatten_constraint`
unfoldable pub write_smt_horn_returns : Task → Bool
write_smt_horn_returns t =
    every (write_datatype_decl_returns t.datatypes) t.datatypes
    && (every (write_const_decl_returns t.datatypes) t.constants
    && (every (write_fun_def_returns t.datatypes) t.functions
    && (every (write_kvar_decl_returns t.datatypes) t.kvars
    && every (write_assert_returns t.datatypes) (clauses_of t))))
