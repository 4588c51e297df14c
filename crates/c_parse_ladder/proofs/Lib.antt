mod Arms
