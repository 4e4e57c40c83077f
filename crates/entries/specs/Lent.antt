-- What stays of a list of entries while it grows.
use Rattle.std.specs.Prelude.{◌≡◌, length}
use Rattle.entries.specs.declared.list.EntryList.{EntryList}

-- the lists lent are the same ones
pub record Same (a b : EntryList) : Type 0 where
  pub stored : b.stored ≡ a.stored
  pub out : b.out.ghost_name ≡ a.out.ghost_name
  pub size : length b.out.now ≡ length a.out.now
