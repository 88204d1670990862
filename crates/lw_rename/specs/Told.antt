-- What a shape in memory tells.
use Rattle.lw_places.specs.Shapes.{ValueShape}
use Rattle.lw_places.specs.Shapes as shape
use Rattle.lw_rename.specs.declared.shape.Shape.{Shape}
use Rattle.lw_rename.specs.declared.shape.Shape.TheVariants.{Text, Number, Huge, Raw, Truth, Child, Refers}

abbrev pub told_shape : Shape → ValueShape
told_shape Text = shape.Text
told_shape Number = shape.Number
told_shape Huge = shape.Huge
told_shape Raw = shape.Raw
told_shape Truth = shape.Truth
told_shape (Child n) = shape.Child n
told_shape (Refers r) = shape.Refers r
