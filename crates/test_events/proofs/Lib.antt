mod KeptOver
