-- The frames of a display, as the code keeps them.
use Rattle.std.specs.Prelude.{List, map}
use Rattle.pfc_store.specs.declared.displays.Frame.{Frame as HeldFrame}
use Rattle.pfc_semantics.specs.Displays.{Frame, Display}

abbrev pub frame_view : HeldFrame → Frame
frame_view f = record { scope = f.scope; activation = f.activation; first = f.first }

abbrev pub frames_view : List HeldFrame → Display
frames_view frames = map frame_view frames
